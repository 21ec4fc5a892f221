-- what the types stand for
pub mod Views
-- what an aggregate gathers
pub mod Gathering
-- groups by their numbers
pub mod Groups
-- hashes of key tuples, and chains of numbers by hashes
pub mod Hashes
pub mod Chains
-- groups of distinct key tuples
pub mod Distinct
-- key tuples that are kept in order
pub mod Keys
-- maps of groups
pub mod Maps
-- where a group can be looked for
pub mod Finding
-- the rows of groups
pub mod Finishing
pub mod Rows
-- what the aggregates of a plan gather
pub mod PlanGatherings
-- partials
pub mod Partials
pub mod RowPartials
-- whose turn it is in merging
pub mod Turns
-- merging
pub mod Merging
-- values that are taken one after another
pub mod TakenValues
pub mod ManyTaken
-- how long it takes to look for a group by its hash
pub mod ChainLaws
