-- where pages are cut
pub mod CuttingLemmas
-- the elements and the leaves of a schema
pub mod ElementLemmas
pub mod LeafLemmas
-- the headers of pages
pub mod HeadLemmas
-- pages and chunks, one after another
pub mod ChunkLemmas
-- what is written depends on the columns alone
pub mod RecordLemmas
-- columns of records can be written
pub mod FitLemmas
