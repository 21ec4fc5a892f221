pub mod KeyLemmas
pub mod ReadingLemmas
pub mod SizeLemmas
pub mod LineLemmas
-- fields and elements, checked one after another
pub mod CheckLemmas
-- what is held at a place
pub mod HeldLemmas
-- texts, elements and members of a value
pub mod OwnedLemmas
-- the value of a line as the line has it
pub mod RawLemmas
-- its fields and elements, checked one after another
pub mod PlainLemmas
