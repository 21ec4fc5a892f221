-- the whole lines of what is read
pub mod Whole
-- what was read of records
pub mod Taken
-- what the faults stand for
pub mod Faults
-- what a reader of records holds
pub mod Records
-- why the next line gives no record
pub mod Stops
-- what a line that was read gives columns
pub mod Striped
