-- leaves and what their columns gain
pub mod Striping
-- a tree of branches, and what a record adds to it
pub mod Added
-- what never changes in a tree
pub mod Shapes
-- what branches stand for
pub mod Views
-- columns of a tree
pub mod Records
-- what a tree is known to be, it is in one way
pub mod Single
-- trees without records yet
pub mod Made
-- a record taken back
pub mod Back
-- the end of a tablet
pub mod Ended
-- columns lent at the end
pub mod Lent
-- what a striper holds
pub mod Stripers
-- the leaves of a schema with their kinds
pub mod Leaves
