-- a course laid out stands for its items
pub mod FlatLemmas
-- the leaves of a course's items
pub mod LeafLemmas
-- the selected leaves behind the fields of a group
pub mod PickLemmas
-- a group's fields, from one on
pub mod FieldLemmas
-- laying out, part by part
pub mod LayingLemmas
-- how many repeated fields and leaves there are
pub mod SizeLemmas
-- where a walk stands, by the item that is next
pub mod SpotLemmas
-- a walk over columns by their levels
pub mod WalkLemmas
-- what its answers say of records
pub mod AnswerLemmas
-- what it knows of each leaf
pub mod KnownLemmas
-- a walk over columns with their values
pub mod ValueLemmas
-- how many moves there are at most
pub mod BoundLemmas
-- a walk over columns of which so much is left
pub mod CheckingLemmas
-- a walk over batches of columns
pub mod BatchLemmas
-- examples, by computation
pub mod WorkedLaying
pub mod WorkedWalking
pub mod WorkedColumns
