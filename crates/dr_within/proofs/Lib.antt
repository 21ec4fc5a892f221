-- putting, one thing after another; a key tuple alone before others
pub mod PutLemmas
pub mod NothingLemmas
-- rows that aren't put yet
pub mod LateLemmas
-- which rows fire at a leaf, and what is read for them
pub mod FiringLemmas
pub mod FiredLemmas
-- what is known at the last of some leaves; the readings of a plan of groups
pub mod LastMeans
pub mod PlanAggregates
pub mod PlanReadings
-- moves one after another; what is made over the walk of records, and the partial of a scan of groups
pub mod FramedLemmas
pub mod PlanFrames
pub mod ScanPartial
-- the items of a bound record query, the readings of a plan of objects, and what a scan of objects makes
pub mod ItemsBound
pub mod PlanItems
pub mod ScanObjects
-- what was made in open branches
pub mod FramingLemmas
-- what is known by a pruner's numbers
pub mod SettledLemmas
-- a scan behind one more move
pub mod BehindLemmas
pub mod StepLemmas
-- what was read last of each leaf
pub mod RowLemmas
-- the table of a record query's levels
pub mod LevelNumbering
pub mod TableLemmas
pub mod LevelSteps
-- for which items a value is taken at a leaf
pub mod ItemFiringLemmas
-- what was made of a record query in open branches
pub mod MadeParts
pub mod RunLemmas
pub mod CopyLemmas
pub mod WithinLemmas
pub mod ItemLemmas
pub mod ItemCells
pub mod ObjectParts
pub mod ObjectFrameLemmas
-- a scan of objects behind one more move, at its begin and at its end
pub mod ObjectSteps
pub mod ObjectEnds
