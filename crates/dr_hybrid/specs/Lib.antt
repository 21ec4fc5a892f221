-- what runs stand for, and the next of them
pub mod Views
-- what is asked of values that are written
pub mod Writing
-- the values ahead of a place in hybrid data
pub mod Ahead
-- what is ahead where a run is partly read
pub mod Unread
-- what is ahead of a reader
pub mod Reader
