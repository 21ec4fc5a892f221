-- Whether records have columns, in code.
-- the fronts of leaves
pub mod Fronts
-- neighbours and outlines
pub mod Outlines
-- agreements of leaves
pub mod Agreements
-- triplets cut where records begin
pub mod Cuts
-- a leaf's triplets alone
pub mod Alone
-- columns of which a front was taken
pub mod Behind
-- what is at hand of leaves' columns
pub mod AtHand
