-- The definitions of partial answers, in the order in which they build on one another.
-- what an aggregate gathers of values
pub mod Accumulators
-- what a query gives on some of the records, merged with what it gives on others; which partials are those of a query, and of how many values
pub mod Partials
pub mod PartialTypes
pub mod PartialBounds
-- serving trees, and the queries of their servers
pub mod Trees
pub mod Rewriting
pub mod RewritingText
-- laws, each proved on a law function of src/
pub mod AccumulatorLaws
pub mod PartialLaws
pub mod Putting
pub mod TreeLaws
pub mod RewritingLaws
-- The order of puts.
-- puts in any order
pub mod AnyOrder
-- puts of records that come in chunks
pub mod Together
-- what is put of the rows that aggregates read
pub mod Readings
-- readings grouped by sources
pub mod SourcesPut
-- chunks of records, source by source
pub mod ChunkPuts
-- puts into groups
pub mod GroupPuts
-- queries that sum no great literal, records with few triplets
pub mod Few
-- laws, each proved on a law function of src/
pub mod BoundLaws
