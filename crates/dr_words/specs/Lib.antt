-- the parts of a command line's definition
pub mod Rules
pub mod Numbers
pub mod Serving
-- each command: its part of the command line, and its values in what clap found
pub mod Load
pub mod Query
pub mod Ask
pub mod Dump
pub mod Stripe
pub mod Fsm
pub mod ShowSchema
pub mod Explain
pub mod Gen
pub mod Trial
pub mod Session
-- what the words of a command line ask for
pub mod Words
