pub mod TableLines
pub mod TableFaults
pub mod BeginsSpelling
pub mod StructsBegin
pub mod FaultsStay
pub mod DeeperReading
pub mod SpellingsRead
pub mod StructFaults
pub mod WideFields
pub mod WideColumns
pub mod WideLacking
pub mod SameLeaves
pub mod FieldsAlike
pub mod WideFiles
-- worked examples, by computation
pub mod WorkedTableFaults
pub mod WorkedStructFaults
pub mod WorkedWidening
