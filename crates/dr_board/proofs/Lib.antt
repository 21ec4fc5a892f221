pub mod MarkLemmas
pub mod TabletLemmas
pub mod AnsweredLemmas
pub mod StateLemmas
pub mod BoardLemmas
