-- the width of levels
pub mod WidthLemmas
-- levels side by side
pub mod PairLemmas
-- values by their encoding, dictionaries, texts
pub mod ValueLemmas
-- the parts of bodies by their places
pub mod PartLemmas
-- level parts
pub mod LevelLemmas
-- how many values there are
pub mod CountLemmas
-- bodies, part by part
pub mod BodyLemmas
-- what is written
pub mod WriteLemmas
-- where so many items are there, fewer of them are there, too
pub mod FrontLemmas
pub mod ValueFronts
pub mod PageFronts
-- a piece behind others
pub mod CursorLemmas
pub mod PageSteps
pub mod ValueSteps
pub mod BitSteps
-- hybrid data, a piece behind others
pub mod RunSteps
-- places of texts
pub mod PlaceLemmas
