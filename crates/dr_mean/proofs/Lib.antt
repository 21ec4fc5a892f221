-- conditions of several tests
pub mod ConditionLemmas
-- the values in slots
pub mod SlotLemmas
-- a row among the rows of a level
pub mod RowIsLemmas
-- what is gathered
pub mod GatheringLemmas
-- rows within a row
pub mod WithinLemmas
-- items and lists
pub mod ItemLemmas
-- the cells of objects
pub mod ObjectCellLemmas
-- records and their objects
pub mod LineLemmas
-- shapes of projections
pub mod ProjectedShapes
-- objects within one another
pub mod NestedLemmas
-- results and what they mean
pub mod AnswerLemmas
-- cells of a result
pub mod ResultLemmas
-- records put into groups
pub mod GroupLawLemmas
-- key tuples
pub mod KeyLemmas
-- what is put of one record
pub mod OneRecordLemmas
-- records put into the groups of a plan
pub mod RecordPutLemmas
-- what is put, one after another
pub mod PutLemmas
-- partials of records and what they mean
pub mod MeanLemmas
