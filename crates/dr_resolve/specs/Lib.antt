-- faults
pub mod Faults
-- expressions that are bound
pub mod Bound
-- the condition and items
pub mod Items
-- the parts of a query
pub mod Parts
-- fields that were found
pub mod Resolved
-- what comes of binding a part
pub mod Outcomes
-- what operators make
pub mod Operators
