-- paths, levels and records
pub mod LeafPaths
pub mod RecordFits
pub mod RecordRows
pub mod PrunedRecords
pub mod WatchedConditions
-- columns
pub mod LevelsAndValues
pub mod ColumnsOfNoRecords
pub mod Automata
-- queries
pub mod QueryTrees
pub mod BoundQueries
pub mod ServerQueries
-- results
pub mod ResultObjects
pub mod ResultShapes
pub mod GroupsByPutting
-- files
pub mod WrittenMaps
pub mod WrittenBytes
pub mod BodiesOfNoPage
pub mod OpenLeafLimit
pub mod TabletCopies
pub mod CountedTablets
pub mod CountedTriplets
-- commands
pub mod EmptyCommandLine
-- what is asked for
pub mod AskedRanges
-- what wrong bodies answer
pub mod WrongAnswers
