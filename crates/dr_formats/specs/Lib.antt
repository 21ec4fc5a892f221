-- The definitions of bytes and files, in the order in which they build on one another.
-- reading from the front of bytes; numbers of a variable length
pub mod Reading
pub mod Varint
-- structs of the Thrift compact protocol: trees, reading, faults and writing; the grammar of their spellings
pub mod Compact
pub mod CompactGrammar
-- little-endian numbers and packed bits; the RLE / bit-packing hybrid
pub mod LittleEndian
pub mod Hybrid
-- values in the encodings PLAIN and RLE_DICTIONARY; bodies of data pages
pub mod Plain
pub mod Page
-- files: structs of the metadata, schemas, leaves that are lacking, column chunks, footers and causes; the file that is written
pub mod Metadata
pub mod FileSchema
pub mod Lacking
pub mod Chunk
pub mod File
pub mod Opening
pub mod Writing
-- tables: the table file; tablets and their places
pub mod TableFile
pub mod Tablets
-- the command `load`; lines of commands over tables and files
pub mod Loading
pub mod Reports
-- laws, each proved on a law function of src/
pub mod VarintLaws
pub mod CompactLaws
pub mod HybridLaws
pub mod PlainLaws
pub mod FileLaws
pub mod Widening
pub mod LackingLaws
pub mod WritingLaws
pub mod OpenSchemaLaws
pub mod TabletLaws
pub mod TableLaws
