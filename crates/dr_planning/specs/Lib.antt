-- what parts stand for in a plan
pub mod Planning
-- levels with joined names, and the view of the code's levels
pub mod NamedLevels
-- the lists that lead from object to object
pub mod Entries
-- the trees of objects
pub mod Trees
-- the rules above paths and operators
pub mod Rules
