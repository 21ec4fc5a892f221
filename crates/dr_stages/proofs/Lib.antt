-- the literals of a plan
pub mod PlanLiterals
-- results as records
pub mod StageLemmas
-- queries that are bound one over another
pub mod BoundLemmas
-- from the innermost query's partial to the result
pub mod ResultLemmas
-- the item by which a result goes
pub mod OrderLemmas
