-- the condition of a plan
pub mod Condition
-- rows of records of a schema
pub mod RowsOf
-- objects within one another
pub mod Nested
-- the cells of objects
pub mod ObjectCells
-- objects of what is left of records
pub mod Lines
-- records on which a plan is answered
pub mod Answers
-- laws of records put into groups
pub mod GroupLaws
-- keys by their leaves
pub mod Keys
-- what is put of rows
pub mod Takings
-- what is put of records
pub mod GroupPuts
