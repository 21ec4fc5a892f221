-- what values and faults stand for
pub mod Views
-- items at indices
pub mod Picking
-- values that are read a piece at a time
pub mod Pieces
-- the bytes of texts, whatever is in them
pub mod FrontTexts
