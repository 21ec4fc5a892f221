-- values read one after another: numbers, truth values, texts
pub mod ReadSteps
-- items at indices
pub mod PickSteps
-- values that are written
pub mod WriteSteps
-- how many values there are
pub mod CountSteps
-- a piece behind others
pub mod PieceSteps
pub mod ReaderSteps
-- texts that are read many at once
pub mod BatchSteps
