pub mod CursorLemmas
pub mod LoopLemmas
pub mod WordLemmas
pub mod FrontLemmas
pub mod LexLemmas
pub mod ParseLemmas
pub mod ListLemmas
-- a text cut at a single quote
pub mod QuoteLemmas
-- the precedences of operators
pub mod PrecedenceLemmas
-- which production is read
pub mod ReadLemmas
-- what was read and is boxed
pub mod BoxLemmas
-- SELECTs over one another
pub mod SelectLemmas
