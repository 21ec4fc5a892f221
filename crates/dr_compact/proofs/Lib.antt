-- the views at each constructor
pub mod ViewLemmas
-- reading, step by step
pub mod NumberLemmas
pub mod StepLemmas
pub mod ElementLemmas
pub mod LoopLemmas
-- writing, step by step
pub mod WriteLemmas
-- looking into trees
pub mod LookLemmas
