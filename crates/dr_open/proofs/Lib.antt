mod PassingLemmas
mod PlaceLemmas
mod FieldLemmas
mod NameLemmas
mod OpeningLemmas
mod OpenedLemmas
mod FirstOpenLemmas
mod SourceLemmas
-- what the source of a leaf says of its path
pub mod StandsLemmas
