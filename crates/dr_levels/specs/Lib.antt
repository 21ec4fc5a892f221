-- texts by their places in a buffer
pub mod Texts
-- columns as levels and values side by side
pub mod Dense
-- what triplets, columns and moves stand for
pub mod Views
-- values that are lent
pub mod Lent
-- what a column takes, and how it changes
pub mod Columns
-- the orders of leaves
pub mod Orders
-- what is known of the open branches of a walk
pub mod Branches
-- levels, those of each kind by themselves
pub mod Apart
