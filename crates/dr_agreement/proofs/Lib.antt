-- neighbours and outlines
pub mod OutlinedLemmas
-- triplets cut where records begin
pub mod CutLemmas
-- a leaf's triplets alone
pub mod AloneLemmas
-- columns of which a front was taken
pub mod BehindLemmas
-- what is at hand of leaves' columns
pub mod AtHandLemmas
-- the next records of what is at hand
pub mod FrontsLemmas
-- levels of a leaf that has few repeated fields
pub mod ShallowLemmas
