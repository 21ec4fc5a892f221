-- worked examples, by computation
pub mod WorkedAccumulators
pub mod WorkedPartials
pub mod WorkedTrees
pub mod WorkedRewriting
pub mod WorkedRewritingText
-- lemmas of accumulators
pub mod ValueOrders
pub mod AccumulatorLemmas
-- lemmas of groups
pub mod GroupLemmas
pub mod RowLemmas
pub mod RelatedLemmas
pub mod PartialLemmas
pub mod ProjectedLemmas
pub mod PartialTypeLemmas
pub mod BoundsLemmas
pub mod TypedLemmas
pub mod BoundLemmas
-- lemmas of trees
pub mod TreeLemmas
pub mod RewritingLemmas
pub mod RootLemmas
-- lemmas of putting
pub mod PutLemmas
-- puts in any order
pub mod AnyOrderLemmas
-- puts of records that come in chunks
pub mod TogetherLemmas
-- what is put of the rows that aggregates read
pub mod ReadingLemmas
-- readings grouped by sources
pub mod SourcePutLemmas
-- chunks of records, source by source
pub mod ChunkPutLemmas
-- puts into groups
pub mod GroupPutLemmas
-- values of 64 bits
pub mod SmallLemmas
-- how many rows there are
pub mod RowCounts
-- what WHERE keeps
pub mod KeptLemmas
-- partials
pub mod PartialBoundLemmas
