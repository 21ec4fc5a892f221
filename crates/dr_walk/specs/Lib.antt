-- The walk over a course that is laid out in one array.
-- the array: its items, and how a course is laid out in it
pub mod Laying
-- what was seen of gates, and which levels a leaf may then have
pub mod Seen
-- what the types of this crate stand for
pub mod Views
-- which places of the array stand for which items
pub mod Flat
-- where a walk stands
pub mod Standing
-- a walk over columns by their levels, and its promises
pub mod Walking
-- a walk over columns with their values, and its promises
pub mod Valued
-- a walk over columns of which so much is left
pub mod Checking
-- a walk over batches of columns
pub mod Batches
