-- fronts of a column, and what joins one
pub mod FrontLemmas
pub mod AppendLemmas
-- what is left of a leaf's batch
pub mod RestLemmas
-- calls that read leaves
pub mod ReadsLemmas
-- slices of columns
pub mod SliceLemmas
pub mod TakenLemmas
pub mod PrintedLemmas
-- texts, and the lines of tablets
pub mod TextLemmas
pub mod LineLemmas
