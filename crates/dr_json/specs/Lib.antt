pub mod Faults
pub mod Reading
pub mod Size
-- what the parts of a value hold
pub mod Held
-- what the parts of a line's own value hold
pub mod Raw
-- what a check of a value tells
pub mod Checks
-- what a check of a line's own value tells
pub mod Plain
-- what the value of a line is
pub mod Lines
-- what the lent parts of a value stand for
pub mod Parts
