-- all faults, and none
pub mod BindLemmas
-- the plan of a query's text
pub mod ReadingLemmas
