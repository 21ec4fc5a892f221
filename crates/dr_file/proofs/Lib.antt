-- what a link is asked for
pub mod AskLemmas
-- what a footer says of leaves
pub mod OpeningLemmas
-- opening a file
pub mod StartLemmas
-- what calls leave of a link
pub mod LeavingLemmas
-- row groups
pub mod GroupLemmas
-- the ends of a file
pub mod FrameLemmas
-- what a chunk spells fits its leaf
mod FitLemmas
-- which levels may follow one another
mod FloorLemmas
-- columns of what is lacking
mod OutlineLemmas
-- columns of leaves, chunk by chunk
mod ColumnLemmas
-- rows of triplets that come a piece at a time
mod RowOrderLemmas
-- levels of a leaf that has few repeated fields
mod ShallowLemmas
-- columns of leaves, a batch at a time
mod LeafStreamLemmas
mod LeafPlaceLemmas
mod StreamLemmas
