-- What a walk's moves put into groups is the partial of a group query.
-- the leaves that a query uses, the last of some related ones, and the paths of a bound condition
pub mod LeavesInOrder
pub mod LastRead
pub mod ConditionPaths
-- the readings of a group query; puts in any order
pub mod Readings
-- what is the same in rows of values of the leaves' types
pub mod Alike
-- what is put over moves, and along them
pub mod FlowPartial
pub mod FramesPartial
-- What a walk's moves make of a record query is the objects of the records.
-- values that are taken, and objects as instances are left
pub mod ObjectFlow
-- the laws
pub mod LevelNumbers
pub mod ObjectFlowLaws
