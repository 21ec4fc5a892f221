-- what metadata and faults stand for
pub mod Views
pub mod Faults
-- the list of schema elements as one tree
pub mod OneTree
