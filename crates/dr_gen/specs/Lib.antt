-- the schema of made records, and the query of a trial
pub mod Document
-- the record of a number, its line, and the lines of numbers that follow one another
pub mod Generator
-- lines in pieces, as they are put one behind another
pub mod Pieces
-- what a source of made lines has left
pub mod Left
