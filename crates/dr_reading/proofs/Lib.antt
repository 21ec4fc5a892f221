-- worked examples, by computation
pub mod WorkedLeft
pub mod WorkedCauses
-- what files are, and what they aren't
pub mod FileLemmas
-- lemmas of the laws
pub mod ReadingLemmas
-- tablets of which a file is held
pub mod HeldFileLemmas
-- what one link reads in turn
pub mod InTurnLemmas
-- worked examples
pub mod WorkedServing
-- lemmas of the laws
pub mod ServingLemmas
pub mod PieceLemmas
