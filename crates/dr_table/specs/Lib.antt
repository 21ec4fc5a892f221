-- what the leaf lines end with
pub mod Parsing
-- what a cut line stands for
pub mod Lines
-- what the faults stand for
pub mod Faults
-- what a table and its parts stand for
pub mod Views
-- the text of a table by its parts
pub mod Writing
-- what tablets that are left stand for
pub mod LeftViews
-- how they are told
pub mod Reports
-- steps of work
pub mod Counting
