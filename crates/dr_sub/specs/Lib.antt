-- objects of a result, by their places among its cells
pub mod PlacedRows
-- what they give a striper's columns
pub mod Striping
-- the fields of a result's schema
pub mod ResultFields
-- the names in it, and the first item at fault
pub mod ResultNames
-- the schema of what a plan gives
pub mod ResultSchemas
-- plans of queries over the results of others
pub mod NestedPlans
-- the plans of a text, and why there are none
pub mod Texts
