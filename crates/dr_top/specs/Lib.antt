-- what the program meets outside at one moment, and what a command means on it
pub mod World
-- what a finished command prints
pub mod Printed
-- what a command gives: its text, or what is left
pub mod Reading
-- what a command leaves of the keeper
pub mod Keeping
-- what stops a command
pub mod Stops
-- the file that a command names, and the leaf that a FIELD names
pub mod KeeperFile
pub mod NamedFile
pub mod Fields
-- what was read of the records of the input
pub mod Records
-- what a command that talks has written
pub mod Talking
-- what words are answered with
pub mod Answers
-- how a run ends
pub mod Ends
-- how a session over the input ends
pub mod Held
-- a law of queries that links serve, proved on a law function of src/
pub mod ServedLaws
-- the theorem to read first: a query over a table in memory
pub mod Theorem
