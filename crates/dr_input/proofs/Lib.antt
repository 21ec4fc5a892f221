-- the record of a line is a record of its schema
pub mod ReadForm
pub mod TextForm
-- whole lines
pub mod WholeLemmas
-- what was taken of lines
pub mod TakenLemmas
-- reading records line by line
pub mod ReadLemmas
mod Worked
