-- what trees stand for, constructor by constructor
mod ViewLemmas
-- the tree of a fan, level by level
mod FanLemmas
-- what is gathered of partials
mod GatheringLemmas
-- places that are filled, and what is merged of them
pub mod PlaceLemmas
mod MergedLemmas
-- lines that wait
mod AppendLemmas
-- groups that came one after another, and below which of the root's children
mod PileLemmas
mod SubtreeLemmas
-- what grows of a tree
mod GrowLemmas
-- a tree that grows, by computation
mod WorkedGrowing
