-- limits, and how a query is served
pub mod Numbers
pub mod Serving
-- what a command means
pub mod Refusals
pub mod Meaning
-- each command: its values, and its meaning
pub mod Load
pub mod Query
pub mod Ask
pub mod Dump
pub mod Stripe
pub mod Fsm
pub mod ShowSchema
pub mod Explain
pub mod Gen
pub mod Trial
pub mod Session
-- laws of what is printed of a table, each proved on a law function of src/
pub mod ScanLaws
-- any command
pub mod Commands
