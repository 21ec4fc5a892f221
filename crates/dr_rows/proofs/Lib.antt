-- rows held flat
pub mod TableLemmas
-- filling the values of leaves
pub mod FillingLemmas
-- going through rows
pub mod WalkingLemmas
-- putting instances into a node
pub mod PuttingLemmas
-- the rows are those of the level
pub mod RowsLemmas
-- rows within a row
pub mod CutLemmas
-- pruning
pub mod PruningLemmas
-- what is pruned is what a test keeps
pub mod KeptLemmas
-- laws of rows
pub mod RowLawLemmas
