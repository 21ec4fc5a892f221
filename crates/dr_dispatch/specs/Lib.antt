-- The definitions of dispatch, in the order in which they build on one another.
-- what is handed out, and what is recorded of it
pub mod Job
pub mod History
-- what is handed out next
pub mod Choice
pub mod Draws
-- the pieces that are kept
pub mod Pieces
-- what a pass shows; what the seats of several threads know
pub mod Seen
pub mod Seats
-- laws, each proved on a law function of src/
pub mod HistoryLaws
pub mod ChoiceLaws
pub mod DrawLaws
pub mod SeatLaws
