-- worked examples, by computation
pub mod WorkedHistories
pub mod WorkedChoices
pub mod WorkedSeats
pub mod WorkedDraws
-- laws
pub mod HistoryLemmas
pub mod BoundLemmas
pub mod ChoiceLemmas
pub mod NextLemmas
pub mod DrawLemmas
pub mod Prefixes
pub mod SeatLemmas
pub mod DrawnLemmas
