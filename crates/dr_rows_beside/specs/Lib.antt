-- Rows of columns side by side, in code.
-- values that are lent
pub mod Lent
-- where a column is read
pub mod Places
-- rows of columns side by side
pub mod Rows
pub mod RowsView
-- rows of the columns that records have
pub mod RecordRows
-- what the slots of rows hold
pub mod Slots
-- the leaves that are read beside one
pub mod Sources
-- the values of an expression in rows of records
pub mod ExprRows
-- bits of a condition
pub mod Bits
-- answers of tests
pub mod Answers
-- numbers beside a literal
pub mod Comparing
-- tests of a leaf's number beside a literal
pub mod LeafTests
-- the answers of a test in rows of records
pub mod TestRows
-- tests of a condition
pub mod Judging
-- what a condition keeps
pub mod Keepings
-- which rows of a leaf a condition keeps
pub mod KeptBits
-- what the bits of a condition mean
pub mod Kept
-- how a condition is made ready
pub mod Makings
-- what a condition made ready keeps
pub mod Keeps
-- the rows that a condition keeps
pub mod KeptRows
