-- restoring nodes of the triplets of their leaves
pub mod Restoring
-- the lines of records, of the triplets of their leaves
pub mod Lines
-- paths in schema order
pub mod Ordered
-- which records have given columns
pub mod Assembly
-- what the types and faults of this crate stand for
pub mod Views
-- the pieces of a column, by its repetition levels
pub mod Pieces
-- strips of leaves that come once each, and strips of one leaf compared
pub mod Distinct
pub mod Comparing
