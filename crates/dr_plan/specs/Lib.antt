pub mod Conjuncts
pub mod Views
pub mod Fitting
pub mod Objects
pub mod Planned
-- the plan of a query that is bound
pub mod PlanOf
