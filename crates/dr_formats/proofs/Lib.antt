-- worked examples, by computation
pub mod Hexadecimal
pub mod WorkedCompact
pub mod WorkedBytes
pub mod WorkedMetadata
pub mod WorkedHybrid
pub mod WorkedPages
pub mod WorkedChunks
pub mod WorkedFiles
pub mod WorkedDamaged
pub mod WorkedForeign
pub mod WorkedWritten
pub mod WorkedForms
pub mod WorkedFormsV2
pub mod WorkedLacking
pub mod WorkedOpenLeaves
pub mod WorkedTables
pub mod WorkedOpening
-- lemmas of reading, of varints and of structs
pub mod ReadingLemmas
pub mod SoundLemmas
pub mod VarintLemmas
pub mod CompactLemmas
pub mod GrammarReads
pub mod GrammarSound
pub mod LocalLemmas
pub mod CompactLocal
pub mod FaultLemmas
-- lemmas of hybrid data, PLAIN values and page bodies
pub mod LittleEndianLemmas
pub mod HybridLemmas
pub mod HybridGrammar
pub mod PlainLemmas
pub mod PageLemmas
-- causes
pub mod FileLemmas
pub mod LackingLemmas
pub mod OpeningLemmas
-- the file that is written is a file of its records
pub mod ChunkLemmas
pub mod MetadataLemmas
pub mod SchemaBack
pub mod OpenSchemaLemmas
pub mod OpenLeavesLemmas
pub mod ColumnsFit
pub mod ColumnRows
pub mod FooterBack
pub mod MetaFits
pub mod FileBack
pub mod LoadFits
-- tables and tablets
pub mod TableLemmas
pub mod TableTextLemmas
pub mod TabletLemmas
