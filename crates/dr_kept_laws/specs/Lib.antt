-- What a query makes of what its condition keeps of a record, and what fires over the moves.
-- the rows of what is kept, and its object
pub mod RowsOfKept
pub mod ObjectsOfKept
-- things that are told at the triplets of one leaf each; which of two leaves comes first
pub mod GroupFlow
pub mod LaterLeaf
-- the laws
pub mod RowsOfKeptLaws
pub mod ObjectsOfKeptLaws
pub mod GroupFlowLaws
-- What is told of the open branches of a walk at each move, and that it is what the query keeps.
-- moves nest in one way; the numbers of a path's repeated fields; what is open where a leaf is read
pub mod Tours
pub mod ChainNumbers
pub mod OpenNumbers
-- what was read behind moves; what is told at each move; the branches as they are left
pub mod MovedContexts
pub mod Telling
pub mod Leavings
-- the same in three numbers; by parts of a condition; by one without leaves
pub mod Counting
pub mod Parts
pub mod Constant
-- what is made along the moves with what is told
pub mod Frames
pub mod FlaggedFlow
-- laws of what is told, and of leaves in reading order
pub mod TellingLaws
pub mod TogetherLaws
