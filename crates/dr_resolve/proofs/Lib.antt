-- the first of several faults
pub mod FaultLemmas
-- lists of bound paths
pub mod BoundLemmas
-- lemmas of going along names
pub mod ResolvingLemmas
-- operators over bound operands
pub mod ExpressionLemmas
-- the condition and what items give
pub mod TermLemmas
-- views at constructors
pub mod SyntaxLemmas
-- paths that lead to leaves
pub mod PathLemmas
-- items and keys, one after another
pub mod ItemLemmas
-- the parts of a query
pub mod PartLemmas
-- operands of unlike types
pub mod UnlikeLemmas
