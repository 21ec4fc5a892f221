-- what a row is known by
pub mod Known
-- what the types stand for
pub mod Views
-- how rows are gone through
pub mod Walking
-- pruning by answers
pub mod Pruning
-- laws of rows
pub mod RowLaws
