pub mod CloseLemmas
pub mod CountedLemmas
pub mod CrossingLemmas
pub mod EndLemmas
pub mod FinishLemmas
pub mod FoundLemmas
pub mod JournalLemmas
pub mod LeafLemmas
pub mod LinkLemmas
pub mod OutcomeLemmas
pub mod PlaceLemmas
pub mod RoundLemmas
pub mod ServingLemmas
pub mod TruthLemmas
pub mod TurnLemmas
mod WorkedServing
-- what a partial prints
mod AnswerLemmas
-- no tablet of a table that is held is left
pub mod LeftLemmas
-- what is printed of a table that is held
pub mod AskLemmas
-- an input that is loaded
pub mod InputLemmas
