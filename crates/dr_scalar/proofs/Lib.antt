-- a pattern's way to its next `%`, and the places from which it may go on
pub mod LikeLemmas
-- where a pattern's literal front ends, and the places at which it occurs
pub mod FrontLemmas
pub mod PlaceLemmas
-- where a part occurs in a text
pub mod OccursLemmas
-- values by what was read of the leaves, operator by operator
pub mod OverLemmas
-- what was read of leaves, by lists of their numbers
pub mod ReadLemmas
-- where the leaves in it were read of a row, a value is that in the row
pub mod LeafLemmas
pub mod NumberLemmas
pub mod TextLemmas
pub mod TruthLemmas
pub mod TestLemmas
-- what was read of the leaves in an expression alone decides its value
pub mod SameReadLemmas
-- which rows have values of the types of their leaves
pub mod TypeLemmas
-- the leaves in an expression are its paths
pub mod LeafPathLemmas
-- expressions joined by AND, and a condition cut into its conjuncts
pub mod ConditionLemmas
-- the leaf that is read last
pub mod LastLemmas
-- worked examples
pub mod WorkedLeaves
