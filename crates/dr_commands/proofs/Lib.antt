-- what each command looks at and how it goes on, and what `explain` prints, by computation
mod WorkedOutcomes
mod WorkedExplain
-- what is printed of a table
pub mod ScanLemmas
