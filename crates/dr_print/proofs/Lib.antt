pub mod PrintLemmas
-- the text of an automaton, piece by piece
pub mod AutomatonLemmas
-- the line of a record, member by member
pub mod MemberLemmas
-- texts that grow part by part
pub mod PartLemmas
-- texts that stand in quotes as they are
pub mod PlainLemmas
-- shapes with their names in quotes
pub mod QuotedLemmas
