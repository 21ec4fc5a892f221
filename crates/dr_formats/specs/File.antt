-- Files: the footer, which files are files of records for a set of leaves, and the causes for which others are not (Apache Parquet, "File format").
use Rattle.std.specs.Prelude.{◌≡◌, ℕ, zero, suc, ◌+◌, ◌-◌, ◌^◌, List, [], ◌∷◌, ◌++◌, map, length, take, drop, replicate, Bool, true, false, ◌&&◌, ◌==◌, nat_le}
use Rattle.std.specs.Prelude.{if◌then◌else◌, bytes_eq, Option, Some, None, option_map, option_and_then, Result, Ok, Err}
use Rattle.std.specs.List.{list_all, flat_map}
use Rattle.dr_meaning.specs.Schema.{Schema}
use Rattle.dr_meaning.specs.Path.{Leaf}
use Rattle.dr_meaning.specs.Record.{Node, is_record}
use Rattle.dr_meaning.specs.Column.{Triplet, triplet, column}
use Rattle.dr_meaning.specs.OneColumn.{is_column}
pub use Rattle.dr_meaning.specs.OneColumn.{starts, begins_record}
use Rattle.dr_formats.specs.Reading.{Reading, got, refused}
use Rattle.dr_formats.specs.LittleEndian.{little_endian}
use Rattle.dr_formats.specs.Compact.{CompactFault, Struct, read_struct}
use Rattle.dr_formats.specs.Metadata.{MetaFault, ColumnMeta, ColumnChunk, RowGroup, FileMeta, view_file}
use Rattle.dr_formats.specs.FileSchema.{FileSchema, file_schema, file_leaves, place_of, open_schema}
use Rattle.dr_formats.specs.Lacking.{StandIn, Source, own_chunks, no_chunks, chunks_of, source_in, has_source, leaf_read, outline}
use Rattle.dr_formats.specs.Page.{is_number}
use Rattle.dr_formats.specs.Chunk.{chunk_triplets}

-- ---- the footer

-- `PAR1`
abbrev pub magic : List ℕ
magic = 80 ∷ 65 ∷ 82 ∷ 49 ∷ []

-- the footer's length, in the four bytes before the last magic
abbrev pub footer_length : List ℕ → ℕ
footer_length bytes = little_endian (take 4 (drop (length bytes - 8) bytes))

-- where the footer begins
abbrev pub footer_place : List ℕ → ℕ
footer_place bytes = length bytes - 8 - footer_length bytes

-- whether there are 12 bytes at least, both magics, and room for the footer between them
abbrev pub is_framed : List ℕ → Bool
is_framed bytes = nat_le 12 (length bytes) && bytes_eq (take 4 bytes) magic && bytes_eq (drop (length bytes - 4) bytes) magic
    && nat_le (footer_length bytes) (length bytes - 12)

-- where the footer begins, its metadata, the tree of its schema elements
pub record Footer : Type 0 where
  pub place : ℕ
  pub meta : FileMeta
  pub schema : FileSchema

-- the metadata, where none of its fields is missing or out of range
abbrev pub meta_of : Result FileMeta MetaFault → Option FileMeta
meta_of (Ok m) = Some m
meta_of (Err e) = None

-- the metadata of what was read, where that is a struct
abbrev pub meta_read : Reading CompactFault Struct → Option FileMeta
meta_read (got s rest) = meta_of (view_file s)
meta_read (refused e rest) = None

-- the metadata with which the footer's bytes begin, if its needed fields are there and in range
abbrev pub footer_meta : List ℕ → Option FileMeta
footer_meta bytes = meta_read (read_struct (take (footer_length bytes) (drop (footer_place bytes) bytes)))

-- whether a chunk lies in this file
abbrev pub has_no_path : Option (List ℕ) → Bool
has_no_path None = true
has_no_path (Some p) = false

-- whether a row group has as many columns as the file has leaves, and none of them in another file
abbrev pub is_whole_group : ℕ → RowGroup → Bool
is_whole_group leaves g = (length g.columns == leaves) && list_all (λ (c : ColumnChunk). has_no_path c.file_path) g.columns

-- the footer, where each row group has a chunk for each leaf of this schema
abbrev pub with_schema : ℕ → FileMeta → FileSchema → Option Footer
with_schema place m s =
    if list_all (is_whole_group (length (file_leaves s.fields))) m.groups then Some (record { place = place; meta = m; schema = s })
    else None

-- the footer of a file, if it has one
unfoldable pub footer_of : List ℕ → Option Footer
footer_of bytes =
    if is_framed bytes then option_and_then (λ (m : FileMeta). option_and_then (with_schema (footer_place bytes) m) (file_schema m.schema)) (footer_meta bytes)
    else None

-- ---- the chunks of a leaf

-- the place of a schema's leaf among the leaves of the file
abbrev pub leaf_place : Footer → Leaf → Option ℕ
leaf_place f l = place_of l (file_leaves f.schema.fields)

-- whether there is a place
abbrev pub is_found : Option ℕ → Bool
is_found None = false
is_found (Some i) = true

-- where the column of a leaf is
abbrev pub leaf_source : Footer → Leaf → Option Source
leaf_source f l = source_in f.schema l

-- whether a file has the column of each of these leaves
abbrev pub has_leaves : Footer → List Leaf → Bool
has_leaves f F = list_all (λ l. has_source (leaf_source f l)) F

-- the leaves whose chunks are read for these: those that the file has, and stand-ins
abbrev pub leaves_read : Footer → List Leaf → List Leaf
leaves_read f F = flat_map (λ l. leaf_read l (leaf_source f l)) F

-- the chunk at this place
abbrev pub nth_chunk : List ColumnChunk → ℕ → Option ColumnChunk
nth_chunk [] i = None
nth_chunk (c ∷ cs) zero = Some c
nth_chunk (c ∷ cs) (suc i) = nth_chunk cs i

-- the chunk of a leaf in a row group; chunks belong to leaves by position
abbrev pub leaf_chunk : Footer → Leaf → RowGroup → Option ColumnMeta
leaf_chunk f l g = option_and_then (λ i. option_map (λ (c : ColumnChunk). c.meta) (nth_chunk g.columns i)) (leaf_place f l)

-- whether a chunk has the codec 0
abbrev pub is_uncompressed : Option ColumnMeta → Bool
is_uncompressed None = true
is_uncompressed (Some m) = is_number 0 m.codec

-- whether each chunk of these leaves has the codec UNCOMPRESSED 0
abbrev pub are_uncompressed : Footer → List Leaf → Bool
are_uncompressed f F = list_all (λ l. list_all (λ g. is_uncompressed (leaf_chunk f l g)) f.meta.groups) F

-- ---- rows and columns

-- the sum of a number of each
abbrev pub total : {A : Type 0} → (A → ℕ) → List A → ℕ
total f [] = 0
total f (x ∷ xs) = f x + total f xs

-- how many rows a file may have
abbrev pub most_rows : ℕ
most_rows = 1000000000

-- how many triplets of a leaf a file may have
abbrev pub most_triplets : ℕ
most_triplets = 2 ^ 40

-- whether the file's rows are those of its row groups, and not too many
abbrev pub rows_agree : Footer → Bool
rows_agree f = (total (λ (g : RowGroup). g.rows) f.meta.groups == f.meta.rows) && nat_le f.meta.rows most_rows

-- how many triplets a chunk is said to have
abbrev pub chunk_values : Option ColumnMeta → ℕ
chunk_values None = 0
chunk_values (Some m) = m.values

-- whether of each leaf there are not too many triplets
abbrev pub values_fit : Footer → List Leaf → Bool
values_fit f F = list_all (λ l. nat_le (total (λ g. chunk_values (leaf_chunk f l g)) f.meta.groups) most_triplets) F

-- the triplets, if they are those of so many whole records
abbrev pub of_rows : ℕ → List Triplet → Option (List Triplet)
of_rows rows ts = if begins_record ts && (starts ts == rows) then Some ts else None

-- the triplets of a leaf in a row group, where they are of the group's rows
abbrev pub group_column : List ℕ → Footer → Leaf → RowGroup → Option (List Triplet)
group_column bytes f l g = option_and_then (λ m. option_and_then (of_rows g.rows) (chunk_triplets bytes f.place l m)) (leaf_chunk f l g)

-- those of row groups, one after another
abbrev pub groups_column : List ℕ → Footer → Leaf → List RowGroup → Option (List Triplet)
groups_column bytes f l [] = Some []
groups_column bytes f l (g ∷ gs) = option_and_then (λ ts. option_map (λ more. ts ++ more) (groups_column bytes f l gs)) (group_column bytes f l g)

-- a leaf's triplets, joined over the row groups, each of whose chunks has those of the group's rows
abbrev pub file_column : List ℕ → Footer → Leaf → Option (List Triplet)
file_column bytes f l = groups_column bytes f l f.meta.groups

-- the triplets, if they are a column of the leaf in so many rows
abbrev pub if_column : Leaf → ℕ → List Triplet → Option (List Triplet)
if_column l rows ts = if is_column l rows ts then Some ts else None

-- what a stand-in's column tells of a leaf that its group lacks, where it is a column of some records
abbrev pub lacking_column : StandIn → ℕ → Option (List Triplet) → Option (List Triplet)
lacking_column x rows ts = option_map (outline x.repetition x.definition) (option_and_then (if_column x.leaf rows) ts)

-- the column of a leaf by its source: the file's; a NULL for each row; what the stand-in's tells
abbrev pub column_by : List ℕ → Footer → Leaf → Option Source → Option (List Triplet)
column_by bytes f l None = None
column_by bytes f l (Some own_chunks) = file_column bytes f l
column_by bytes f l (Some no_chunks) = Some (replicate f.meta.rows (triplet 0 0 None))
column_by bytes f l (Some (chunks_of x)) = lacking_column x f.meta.rows (file_column bytes f x.leaf)

-- the column that a file gives of a leaf
abbrev pub given_column : List ℕ → Footer → Leaf → Option (List Triplet)
given_column bytes f l = column_by bytes f l (leaf_source f l)

-- ---- files of records

-- the columns of the records are those that the file gives, for these leaves
abbrev pub AreColumns : List ℕ → Footer → List Leaf → List Node → Type 0
AreColumns bytes f F R = map (given_column bytes f) F ≡ map (λ (l : Leaf). Some (column l.path R)) F

-- a footer's data is that of these records of the schema; no leaf whose chunks are read has too many triplets
abbrev pub IsDataOf : List ℕ → Footer → Schema → List Leaf → List Node → Type 0
IsDataOf bytes f s F R = (rows_agree f ≡ true) × (values_fit f (leaves_read f F) ≡ true) × (length R ≡ f.meta.rows) × (list_all (is_record s.fields) R ≡ true)
    × AreColumns bytes f F R

-- the bytes are a file of these records of the schema, for these of its leaves; in records of a wider schema than the file's the fields that it lacks are absent
abbrev pub IsFileOf : List ℕ → Schema → List Leaf → List Node → Type 0
IsFileOf bytes s F R = (f : Footer) × (footer_of bytes ≡ Some f) × (has_leaves f F ≡ true) × (are_uncompressed f (leaves_read f F) ≡ true)
    × IsDataOf bytes f s F R

-- ---- causes

-- no footer; a leaf whose column the file doesn't have, not even by what it lacks; a chunk with another codec; no records
pub data FileCause : Type 0 where
  bad_footer : FileCause
  bad_schema : FileCause
  bad_codec : FileCause
  bad_data : FileCause

-- the cause for which bytes are no file of any records of the schema for these leaves: it holds, and none before it does
abbrev pub HasCause : List ℕ → Schema → List Leaf → FileCause → Type 0
HasCause bytes s F bad_footer = footer_of bytes ≡ None
HasCause bytes s F bad_schema = (f : Footer) × (footer_of bytes ≡ Some f) × (has_leaves f F ≡ false)
HasCause bytes s F bad_codec = (f : Footer) × (footer_of bytes ≡ Some f) × (has_leaves f F ≡ true) × (are_uncompressed f (leaves_read f F) ≡ false)
HasCause bytes s F bad_data = (f : Footer) × (footer_of bytes ≡ Some f) × (has_leaves f F ≡ true) × (are_uncompressed f (leaves_read f F) ≡ true)
    × ((R : List Node) → IsDataOf bytes f s F R → ⊥)

-- ---- a test for causes: of the last it knows only the reasons that need no records

-- whether there are triplets
abbrev pub is_decoded : Option (List Triplet) → Bool
is_decoded None = false
is_decoded (Some ts) = true

-- whether rows and numbers of triplets agree, and the file gives a column of each leaf
abbrev pub has_columns : List ℕ → Footer → List Leaf → Bool
has_columns bytes f F = rows_agree f && values_fit f (leaves_read f F) && list_all (λ l. is_decoded (given_column bytes f l)) F

-- the cause by the tests of a footer, in their order, where this test tells whether the data is good
abbrev pub cause_by : (Footer → Bool) → List Leaf → Option Footer → Option FileCause
cause_by is_good F None = Some bad_footer
cause_by is_good F (Some f) =
    if has_leaves f F then (if are_uncompressed f (leaves_read f F) then (if is_good f then None else Some bad_data) else Some bad_codec) else Some bad_schema

abbrev pub footer_cause : List ℕ → List Leaf → Option Footer → Option FileCause
footer_cause bytes F o = cause_by (λ f. has_columns bytes f F) F o

-- the cause of bytes, as far as the test knows
abbrev pub known_cause : List ℕ → List Leaf → Option FileCause
known_cause bytes F = footer_cause bytes F (footer_of bytes)

-- the open part of a file's schema, or the cause for which there is none
abbrev pub schema_or_cause : Option Footer → Result Schema FileCause
schema_or_cause None = Err bad_footer
schema_or_cause (Some f) = by_schema (open_schema f.schema)
  where
    by_schema : Option Schema → Result Schema FileCause
    by_schema None = Err bad_schema
    by_schema (Some s) = Ok s

-- the open part of the schema of a file, or the cause for which there is none
abbrev pub schema_of_file : List ℕ → Result Schema FileCause
schema_of_file bytes = schema_or_cause (footer_of bytes)
