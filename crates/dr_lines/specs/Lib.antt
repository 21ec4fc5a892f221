-- what a cutter has read ahead, and what a cut line is
pub mod Cutting
