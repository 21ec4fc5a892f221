-- What the moves of a walk make of records for a plan of groups or of objects.
-- what was read last of each leaf
pub mod Rows
-- what is taken of rows, and where they fire
pub mod Takings
pub mod Firings
-- rows that aren't put yet; what was made in open branches
pub mod Late
pub mod Framing
-- what is made behind some moves; a scan behind them, and the scan of a plan
pub mod FramedMoves
pub mod Behind
pub mod Scanning
-- the levels of a record query, and for which of its items values are taken at which leaf
pub mod ObjectLevels
pub mod LevelTable
pub mod ItemFirings
-- what was made of a record query in open branches
pub mod ObjectFraming
pub mod WithinValues
pub mod OwnCells
-- a scan of its objects behind some moves, and the scan of a plan
pub mod ObjectsBehind
pub mod ObjectScanning
