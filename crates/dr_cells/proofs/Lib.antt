-- texts of cells in a buffer
pub mod CellLemmas
-- objects are read back from their cells
pub mod ReadingLemmas
-- which shape the objects of a plan have
pub mod ShapeLemmas
-- results as cells, by computation
pub mod WorkedResults
