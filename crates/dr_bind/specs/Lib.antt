-- what binding answers
pub mod Binds
-- why a query is refused
pub mod Faults
-- the plan of a query's text
pub mod Plans
