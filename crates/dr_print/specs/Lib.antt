-- the leaves of an automaton, lent, and the lines of its transitions
pub mod Transitions
-- the members of a record's line
pub mod Members
-- the parts of a text
pub mod Parts
-- shapes with their names in quotes
pub mod Quoted
