pub mod ChainLemmas
-- texts in a buffer
pub mod TextLemmas
-- levels and values side by side
pub mod DenseLemmas
-- lemmas of the orders of leaves
pub mod OrderLemmas
pub mod WithinLemmas
-- levels, those of each kind by themselves
pub mod ApartLemmas
