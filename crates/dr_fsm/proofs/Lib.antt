-- rows and tables of an automaton
pub mod RowLemmas
pub mod TransitionLemmas
pub mod BuildLemmas
pub mod SelectionLemmas
