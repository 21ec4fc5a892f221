-- numbers in bytes, and values in their bits
pub mod UnpackLemmas
-- the numbers of values, piece by piece
pub mod NumberLemmas
-- runs, one after another
pub mod RunLemmas
-- what runs and answers of theirs hold
pub mod RunFacts
-- values into bits, and runs that are written
pub mod PackLemmas
-- whether values are of a width
pub mod FittingLemmas
-- hybrid data read a piece at a time
pub mod ReaderLemmas
-- how many values at the front are equal, piece by piece
pub mod FrontLemmas
-- runs of one group, which follow one another
pub mod GroupLemmas
