-- worked examples, by computation
pub mod WorkedPuts
-- lemmas of the laws
pub mod ConditionLemmas
pub mod PicksAt
pub mod LeavesInOrderLemmas
pub mod LongestLevel
pub mod LastReadLemmas
pub mod ReadingLemmas
pub mod AlikeLemmas
pub mod FlowPartialLemmas
pub mod FramesPartialLemmas
-- worked examples, by computation
pub mod WorkedObjects
-- levels and their numbers; what is among what was made, and over tours
pub mod LevelLemmas
pub mod NumberLemmas
pub mod MadeLemmas
pub mod FlowLemmas
-- objects of rows; rows that instances make of a record
pub mod MeantObjects
pub mod PathLemmas
pub mod RowFrames
-- selected leaves, and what is known of them; what fires inside an instance
pub mod PlaceLemmas
pub mod KnownValues
pub mod InsideValues
-- the objects of instances, of what is below a node, of records
pub mod ItemValues
pub mod ObjectParts
pub mod ObjectRecursion
pub mod RecordObjects
-- the laws move by move, and of the partial
pub mod PartialLemmas
pub mod FramesObjects
