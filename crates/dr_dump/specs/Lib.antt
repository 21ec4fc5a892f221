-- the lines of records, and what is left
pub mod Dumps
-- which answer says what
pub mod Answers
-- fronts of a column
pub mod Fronts
-- the columns of leaves, some records at a time
pub mod Leaves
pub mod Slices
-- what is printed of a file, and of a tablet
pub mod Lines
pub mod Printed
