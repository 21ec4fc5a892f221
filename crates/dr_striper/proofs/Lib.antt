-- columns that gain what their paths give
pub mod GainLemmas
pub mod GrowthLemmas
-- records of a schema fit its leaves
pub mod FitLemmas
pub mod FoundLemmas
pub mod SchemaLeafLemmas
-- levels without a value
pub mod NullLemmas
-- what a record adds to a tree
pub mod AddedLemmas
-- what a pass keeps
pub mod PassingLemmas
-- records added at leaves
pub mod RecordLemmas
-- a record taken back
pub mod BackLemmas
-- branches, one after another
pub mod CuttingLemmas
-- trees that are made
pub mod MadeLemmas
pub mod PutLemmas
-- leaves of a schema are those of one tree
pub mod TreeLemmas
-- the end of a tablet
pub mod EndLemmas
-- triplets copied
pub mod CopyLemmas
-- columns lent
pub mod LentLemmas
