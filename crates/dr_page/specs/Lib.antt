-- what pages, dictionaries and readers stand for
pub mod Views
-- what comes of reading
pub mod Reads
-- encodings by their numbers
pub mod Encodings
-- faults of values
pub mod Faults
-- level parts, and levels side by side
pub mod Parts
-- indices of a dictionary
pub mod Indices
-- what comes of writing
pub mod Writes
-- places of texts
pub mod Places
-- hybrid data, levels, values and pages that are read a piece at a time
pub mod RunReading
pub mod LevelPieces
pub mod ValuePieces
pub mod PageReading
