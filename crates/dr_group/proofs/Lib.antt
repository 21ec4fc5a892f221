-- the order of key tuples, cell by cell
pub mod OrderLemmas
-- whether lent cells are the same as held ones
pub mod SamenessLemmas
-- what aggregates gather
pub mod GatheringLemmas
-- groups by their numbers
pub mod PickLemmas
-- chains of numbers
pub mod ChainLemmas
-- groups of distinct key tuples
pub mod DistinctLemmas
-- what is put into groups that are not in order
pub mod PutLemmas
-- groups that are put in order
pub mod SortLemmas
-- held groups, where one changes or is made
pub mod HeldLemmas
-- groups by their numbers
pub mod NumberLemmas
-- numbers that are found by the order of key tuples
pub mod OrderedLemmas
-- where a key tuple is looked for
pub mod FindLemmas
-- the cells of rows
pub mod FinishLemmas
-- the rows of groups
pub mod RowLemmas
-- partials of a plan
pub mod PartialLemmas
-- the partial of rows without keys
pub mod RowPartialLemmas
-- elements that are read and written through a slice
pub mod PlaceLemmas
-- accumulators of two groups
pub mod JoinLemmas
-- merging from the fronts
pub mod MergeLemmas
-- groups moved from the front of an order
pub mod MovingLemmas
-- groups still to be merged
pub mod TurnLemmas
-- groups numbered from 0 on
pub mod NumberedLemmas
-- values that are taken one after another
pub mod TakenLemmas
-- values that are taken at once
pub mod ManyLemmas
