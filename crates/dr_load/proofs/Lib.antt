-- what a keeper holds after puts
pub mod PutLemmas
pub mod WorkedPuts
-- the columns of a tablet
pub mod FillLemmas
-- tablets
pub mod TabletLemmas
-- tablets that are loaded one after another
pub mod LoadLemmas
-- what the source gave before it failed
pub mod GivenLemmas
-- directories and copies that are refused
pub mod WordLemmas
-- a worked example, by computation
pub mod WorkedLoad
-- the records of each tablet
pub mod LoadedTablets
-- what files hold behind puts
pub mod LoadedPuts
-- the laws
pub mod LoadedLemmas
