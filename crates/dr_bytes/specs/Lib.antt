-- what a cut holds
pub mod Cutting
-- what faults stand for
pub mod Numbers
-- the spelling that a number is written in
pub mod Spelling
