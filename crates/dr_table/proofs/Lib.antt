mod HeadLemmas
mod LineLemmas
mod LeafLemmas
pub mod PathLemmas
mod TextLemmas
-- what is left, told
mod ReportLemmas
