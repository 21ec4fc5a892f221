-- stretches of a file
pub mod StretchLemmas
-- a chunk's pages, one at a time
pub mod StepLemmas
-- how many triplets a page has, and what taking it does
pub mod LengthLemmas
pub mod TakeLemmas
pub mod PageStepLemmas
-- a chunk, a piece at a time
pub mod TakingLemmas
-- what a link was asked for
pub mod AskLemmas
-- page headers
pub mod HeaderLemmas
