-- ranges of a file, and requests for bytes in them
pub mod Ranges
-- stretches of a file
pub mod Stretches
-- page headers as they are read
pub mod Headers
-- a chunk's pages, one at a time
pub mod Steps
-- faults
pub mod Faults
-- what is known between pages
pub mod Takers
-- shapes of data pages
pub mod Shapes
-- a page that is read a piece at a time
pub mod Underway
-- and a chunk
pub mod Taking
