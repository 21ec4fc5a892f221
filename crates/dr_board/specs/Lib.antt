-- what a state keeps of each tablet, so that it needs no look at its history
pub mod Tablets
-- what a state and a board show
pub mod Shown
