-- the paths that parts use
pub mod PlanPathLemmas
-- one more item of a plan
pub mod PlanStepLemmas
-- what parts select
pub mod PlanSelectionLemmas
-- the plan of parts
pub mod PlanLemmas
-- the view of levels, and the levels of a schema
pub mod LevelLemmas
-- what items put into objects
pub mod EntryLemmas
-- the trees of objects
pub mod ObjectLemmas
-- the rules above paths and operators
pub mod RuleLemmas
