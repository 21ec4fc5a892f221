-- The walk of records as a machine: it goes over columns by a course made of the schema once, and makes no record.
-- what is gone through, made of a schema and selected leaves
pub mod Course
-- a machine's turn: which move it makes, by the triplets that come next
pub mod Turning
-- turns, one after another, over columns
pub mod Leading
-- leaves that are selected once each
pub mod Selection
-- the laws, each proved on a law function of src/
pub mod CourseLaws
-- What a scan makes of the walk's moves: rows at leaves, conditions, kept branches; all without a record.
-- what was read last of each leaf, and which leaves are read together
pub mod Context
pub mod Together
-- rows fire at leaves
pub mod Firing
-- moves as they nest; a condition over them; append and cut
pub mod Tour
pub mod Condition
pub mod Cutting
-- what is kept has a true row: a record, and an instance
pub mod Readers
pub mod KeptLaws
