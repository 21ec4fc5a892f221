-- worked examples, by computation
pub mod WorkedPlans
-- lemmas of the laws
pub mod ConjunctLemmas
pub mod ObjectLemmas
pub mod CuttingLemmas
pub mod RejoiningLemmas
