-- the leaves of the root are those of the schema
pub mod WayLemmas
-- chains of paths
pub mod ChainLemmas
-- a level that stands for earlier paths
pub mod RelatedLemmas
-- each leaf that a query uses is among its leaves once
pub mod LeavesOnce
-- a leaf that a query uses, among the leaves of the query
pub mod UsedLemmas
-- what is kept, and what is at places
pub mod ListLemmas
-- the longest of several chains
pub mod LongestLemmas
-- the chains of expressions with two operands
pub mod OperandLemmas
