-- what is read of a file for some leaves, and what a link is asked for
pub mod FileRecords
pub mod Asked
-- laws of leaves, proved on a law function of src/
pub mod LeafLaws
-- aggregates that count rows
pub mod RowCounts
-- what columns, a file, a tablet and tablets give
pub mod OfColumns
pub mod Scans
pub mod Tablets
pub mod Tables
-- what a plan makes of moves, and the streams of an opened file's leaves
pub mod Makings
pub mod Streamed
-- what reading a file's leaves asks of a link
pub mod Served
-- the columns of a file's leaves side by side
pub mod Chunked
-- what is left of a file of which the first records were taken
pub mod Rests
-- a law, proved on a law function of src/
pub mod ScanLaws
-- columns that are there as a whole
pub mod Wholes
