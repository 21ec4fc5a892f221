-- the same of each of a list
pub mod EachLemmas
-- fields put behind one another
pub mod BuildLemmas
-- trees of page headers
pub mod PageLemmas
-- the list of schema elements as one tree
pub mod OneTreeLemmas
