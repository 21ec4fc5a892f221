-- what the faults stand for
pub mod Faults
-- what a plan stands for
pub mod Plans
-- what a keeper holds after puts
pub mod Puts
-- what a filled tablet holds
pub mod Filled
-- what a load puts, counts and leaves
pub mod Loads
-- what the source gave before it failed
pub mod Given
-- what the problems of words stand for
pub mod Words
-- what may be loaded, and which files copies hold
pub mod Loaded
-- laws, each proved on a law function of src/
pub mod LoadedLaws
