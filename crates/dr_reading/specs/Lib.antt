-- The definitions of reading a table, in the order in which they build on one another.
-- what links hold at paths, and why a copy gave nothing
pub mod Held
pub mod Causes
-- what is read, and what is printed of it
pub mod Scan
-- what was given, and what is left
pub mod Given
pub mod Left
-- what one link reads of all tablets, and how its count moves
pub mod InTurn
-- the lines that tell what is left
pub mod LeftText
-- what has to hold of links and tablets
pub mod Premises
-- laws, each proved on a law function of src/
pub mod ReadingLaws
-- those of serving a table
-- when a piece is true of a tablet
pub mod Truth
-- what serving ends with
pub mod Outcome
pub mod Pieces
-- what has to hold of all links and of a table's tablets
pub mod ServingPremises
-- laws, each proved on a law function of src/
pub mod ServingLaws
