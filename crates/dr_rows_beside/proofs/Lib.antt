-- where a column is read
pub mod PlaceLemmas
-- rows of columns side by side
pub mod RowLemmas
-- what the slots hold in each row
pub mod RunLemmas
-- rows of the columns that records have
pub mod RecordRowLemmas
-- the leaves that are read beside one
pub mod SourceLemmas
-- the leaves of expressions
pub mod ReadingLemmas
-- the values of an expression in rows of records
pub mod ExprRowLemmas
-- rows of which the bit is set
pub mod PickedLemmas
-- what the slots of rows hold
pub mod SlotLemmas
-- bits of a condition
pub mod BitLemmas
-- answers of tests
pub mod AnswerLemmas
-- numbers beside a literal
pub mod ComparingLemmas
-- tests of a leaf's number beside a literal
pub mod LeafTestLemmas
-- the answers of a test in rows of records
pub mod TestRowLemmas
-- tests of a condition
pub mod JudgingLemmas
-- what a condition keeps
pub mod KeepingLemmas
-- what the bits of a condition mean
pub mod KeptLemmas
-- how a condition is made ready
pub mod MakingLemmas
-- what a condition made ready keeps
pub mod KeepsLemmas
-- columns of records can be judged
pub mod JudgeableLemmas
-- bits at the greatest depth
pub mod BottomLemmas
-- bits that are spread over places
pub mod SpreadBitLemmas
-- how many repeated fields leaves have in common
pub mod CommonLemmas
-- the bits of instances
pub mod KeptBitLemmas
-- the rows that a condition keeps
pub mod KeptRowLemmas
-- the test of the last leaf
pub mod LastTestLemmas
