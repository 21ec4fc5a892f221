-- worked examples, by computation
pub mod WorkedGenerator
-- lines in pieces
mod PieceLemmas
-- records, instance by instance
mod RecordLemmas
-- what a source gives and has left
mod SourceLemmas
-- what holds of an error
pub mod WritingLemmas
