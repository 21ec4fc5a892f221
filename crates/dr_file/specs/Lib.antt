-- chunks together
pub mod ChunkPlaces
-- what a link is asked for
pub mod Asking
-- ends of files, and footers
pub mod Frames
-- row groups
pub mod Groups
-- the sources of leaves, and how their columns are told
pub mod Sources
pub mod Fields
-- what of a footer is kept
pub mod Openings
-- opened files
pub mod OpenedFiles
-- what a call leaves of a link
pub mod Leaving
-- faults
pub mod Faults
-- which levels may follow one another
pub mod Floors
-- rows of triplets that come a piece at a time
pub mod RowOrders
-- columns of leaves, chunk by chunk, and a batch at a time
pub mod LeafColumns
pub mod LeafStreams
-- schemas of files
pub mod Schemas
-- columns of leaves, a batch at a time
pub mod Streams
