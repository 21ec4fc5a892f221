-- the records of a column, and where pages are cut
pub mod Cutting
-- pages, chunks and column chunks
pub mod Chunks
-- the leaves of a schema, as they are written
pub mod Leaves
-- which files are written
pub mod Files
