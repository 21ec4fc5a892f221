-- the table of an automaton's transitions
pub mod Tables
-- automata and the orders of their leaves
pub mod Automata
