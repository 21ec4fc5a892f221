-- what trees stand for
pub mod Views
-- the tree of a fan, level by level
pub mod Fan
-- partials that are gathered together
pub mod Together
-- places of tablets, filled in any order
pub mod Places
-- lines that wait, and are appended
pub mod Waiting
pub mod Appending
-- groups that came one after another, and below which of the root's children
pub mod Piles
pub mod Subtrees
-- what grows of a tree
pub mod Grows
-- laws, each proved on a law function of src/laws.rt
pub mod GrowingLaws
