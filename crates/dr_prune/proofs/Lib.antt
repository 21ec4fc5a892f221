-- bits of masks, and the branches that they are for
pub mod MaskLemmas
-- masks that tell what the numbers tell
pub mod ToldLemmas
-- a pruner behind moves
pub mod SeenLemmas
-- how many branches are open behind moves that nest
pub mod OpenLemmas
-- the numbers on a path, from one field of a group on
pub mod ChainLemmas
-- the answers of parts, where one more was tested
pub mod PartAnswerLemmas
-- a pruner and the answers of parts behind moves
pub mod PrunedLemmas
-- examples, by computation
pub mod WorkedPruning
