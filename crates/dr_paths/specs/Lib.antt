-- the leaves below a way
pub mod Ways
-- what bound paths stand for
pub mod Views
-- what stands for all the paths before one
pub mod Related
-- the numbers of leaves among others
pub mod Numbers
-- how often a leaf is among the leaves of a query
pub mod LeavesLaws
-- the chains of a plan's expressions
pub mod Chains
