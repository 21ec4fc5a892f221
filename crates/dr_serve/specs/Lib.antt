-- what is to be done, and when what a worker finds is true
pub mod Working
-- what a pass knows of the work that was done with it
pub mod Ends
-- what a link shows after work
pub mod Links
-- what has grown of pieces, and grows on
pub mod GrowsOn
-- what the closing round reads, and what it gives
pub mod Rounds
pub mod Closing
-- what serving ends with
pub mod Serving
-- what is lent to workers
pub mod Lent
-- the records that a query counts
pub mod Counted
-- what serving ends with, by cases
pub mod Served
-- what a query prints of a table, and what is left
pub mod Answers
-- a table that is held, and an input's answer
pub mod Asked
