-- the keeper's files, and the file that a command names
pub mod KeeperFileLemmas
pub mod NamedFileLemmas
-- reading the records of the input
pub mod InputLemmas
-- outcomes of commands, what they put, what they answer, and those that ask the first link
pub mod OutcomeLemmas
pub mod PutLemmas
pub mod CommandLemmas
pub mod FirstLinkLemmas
pub mod LinkLemmas
-- single commands: their steps, and their answers
pub mod AskEnds
pub mod StripeLemmas
pub mod StripeEnds
pub mod FsmLemmas
pub mod FsmEnds
pub mod ExplainEnds
pub mod GenEnds
pub mod TrialEnds
pub mod LoadEnds
pub mod DumpEnds
pub mod QueryEnds
pub mod SchemaEnds
pub mod SessionEnds
-- the ends of a run
pub mod RunLemmas
-- tables that are held whole
mod ServedLemmas
-- the ends of a run that holds a session
mod TalkLemmas
-- what is printed of the records that links give
pub mod ServedTextLemmas
-- a query over a table in memory, and its premises by example
pub mod TheoremLemmas
mod WorkedTheorem
