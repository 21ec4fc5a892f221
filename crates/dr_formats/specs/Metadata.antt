-- The structs of a file's metadata (Apache Parquet, parquet.thrift): their fields in a tree, and their trees as they are written.
use Rattle.std.specs.Prelude.{ℕ, Bool, List, [], ◌∷◌, ℤ, pos, negsuc, Option, Some, None, option_map, option_and_then, Result, Ok, Err}
use Rattle.dr_formats.specs.Compact.{i32_type, binary_type, struct_type, Struct, stop, struct_field, Item, truth_item, i32_item, i64_item}
use Rattle.dr_formats.specs.Compact.{binary_item, list_item, struct_item, Items, no_items, item, find_field}

-- a needed field that isn't there with its type, or whose number is outside its range, by its id
pub data MetaFault : Type 0 where
  missing : ℕ → MetaFault
  out_of_range : ℕ → MetaFault

infixl 15 ◌>>=◌
-- one field and then another that may depend on it, or the first fault
abbrev pub ◌>>=◌ : {A B : Type 0} → Result A MetaFault → (A → Result B MetaFault) → Result B MetaFault
◌>>=◌ (Ok a) next = next a
◌>>=◌ (Err e) next = Err e

-- ---- values of a type

-- a number of the type i32
abbrev pub as_i32 : Item → Option ℤ
as_i32 (i32_item z) = Some z
as_i32 x = None

-- a number of the type i64
abbrev pub as_i64 : Item → Option ℤ
as_i64 (i64_item z) = Some z
as_i64 x = None

-- a truth value
abbrev pub as_truth : Item → Option Bool
as_truth (truth_item b) = Some b
as_truth x = None

-- bytes of the type binary
abbrev pub as_binary : Item → Option (List ℕ)
as_binary (binary_item b) = Some b
as_binary x = None

-- a struct
abbrev pub as_struct : Item → Option Struct
as_struct (struct_item s) = Some s
as_struct x = None

-- all of a list, each as its type
abbrev pub all_as : {A : Type 0} → (Item → Option A) → Items → Option (List A)
all_as f no_items = Some []
all_as f (item x xs) = option_and_then (λ a. option_map (λ rest. a ∷ rest) (all_as f xs)) (f x)

-- a list of structs; it counts as one only where that is its element type, also where it is empty
abbrev pub as_structs : Item → Option (List Struct)
as_structs (list_item struct_type xs) = all_as as_struct xs
as_structs x = None

-- a list of numbers of the type i32
abbrev pub as_numbers : Item → Option (List ℤ)
as_numbers (list_item i32_type xs) = all_as as_i32 xs
as_numbers x = None

-- a list of bytes of the type binary
abbrev pub as_names : Item → Option (List (List ℕ))
as_names (list_item binary_type xs) = all_as as_binary xs
as_names x = None

-- a field that need not be there; with another type it counts as not there
abbrev pub optional_field : {A : Type 0} → (Item → Option A) → ℕ → Struct → Option A
optional_field f i s = option_and_then f (find_field (pos i) s)

-- the value, or that this field is missing
abbrev pub unless_missing : {A : Type 0} → ℕ → Option A → Result A MetaFault
unless_missing i None = Err (missing i)
unless_missing i (Some a) = Ok a

-- a needed field
abbrev pub needed : {A : Type 0} → (Item → Option A) → ℕ → Struct → Result A MetaFault
needed f i s = unless_missing i (optional_field f i s)

-- the number, or that this field is out of range
abbrev pub unless_negative : ℕ → ℤ → Result ℕ MetaFault
unless_negative i (pos n) = Ok n
unless_negative i (negsuc n) = Err (out_of_range i)

-- a needed number that isn't negative
abbrev pub needed_count : (Item → Option ℤ) → ℕ → Struct → Result ℕ MetaFault
needed_count f i s = do
  z ← needed f i s
  unless_negative i z

-- the same of each of a list of structs, in order
abbrev pub each : {A : Type 0} → (Struct → Result A MetaFault) → List Struct → Result (List A) MetaFault
each f [] = Ok []
each f (s ∷ ss) = do
  a ← f s
  rest ← each f ss
  Ok (a ∷ rest)

-- a struct that need not be there, but must be complete where it is
abbrev pub where_there : {A : Type 0} → (Struct → Result A MetaFault) → Option Struct → Result (Option A) MetaFault
where_there f None = Ok None
where_there f (Some s) = do
  a ← f s
  Ok (Some a)

-- ---- SchemaElement

-- SchemaElement: a leaf or group of the schema
pub record SchemaElement : Type 0 where
  pub type : Option ℤ
  pub type_length : Option ℤ
  pub repetition : Option ℤ
  pub name : List ℕ
  pub children : Option ℤ
  pub converted : Option ℤ

-- the schema element of a struct
abbrev pub view_element : Struct → Result SchemaElement MetaFault
view_element s = do
  n ← needed as_binary 4 s
  Ok (record {
    type = optional_field as_i32 1 s;
    type_length = optional_field as_i32 2 s;
    repetition = optional_field as_i32 3 s;
    name = n;
    children = optional_field as_i32 5 s;
    converted = optional_field as_i32 6 s;
  })

-- ---- ColumnMetaData, ColumnChunk, RowGroup, FileMetaData

-- ColumnMetaData: type, encodings, path, codec, number of values, sizes and offsets of a chunk
pub record ColumnMeta : Type 0 where
  pub type : ℤ
  pub encodings : Option (List ℤ)
  pub path : Option (List (List ℕ))
  pub codec : ℤ
  pub values : ℕ
  pub uncompressed_size : Option ℤ
  pub compressed_size : ℕ
  pub data_page_offset : ℕ
  pub dictionary_page_offset : Option ℤ

-- the column metadata of a struct
abbrev pub view_column_meta : Struct → Result ColumnMeta MetaFault
view_column_meta s = do
  t ← needed as_i32 1 s
  c ← needed as_i32 4 s
  n ← needed_count as_i64 5 s
  z ← needed_count as_i64 7 s
  d ← needed_count as_i64 9 s
  Ok (record {
    type = t;
    encodings = optional_field as_numbers 2 s;
    path = optional_field as_names 3 s;
    codec = c;
    values = n;
    uncompressed_size = optional_field as_i64 6 s;
    compressed_size = z;
    data_page_offset = d;
    dictionary_page_offset = optional_field as_i64 11 s;
  })

-- ColumnChunk: a chunk with its metadata
pub record ColumnChunk : Type 0 where
  pub file_path : Option (List ℕ)
  pub file_offset : Option ℤ
  pub meta : ColumnMeta

-- the column chunk of a struct
abbrev pub view_chunk : Struct → Result ColumnChunk MetaFault
view_chunk s = do
  m ← needed as_struct 3 s
  c ← view_column_meta m
  Ok (record { file_path = optional_field as_binary 1 s; file_offset = optional_field as_i64 2 s; meta = c })

-- RowGroup: a chunk for each leaf, and the number of rows
pub record RowGroup : Type 0 where
  pub columns : List ColumnChunk
  pub total_byte_size : Option ℤ
  pub rows : ℕ

-- the row group of a struct
abbrev pub view_group : Struct → Result RowGroup MetaFault
view_group s = do
  cs ← needed as_structs 1 s
  n ← needed_count as_i64 3 s
  columns ← each view_chunk cs
  Ok (record { columns = columns; total_byte_size = optional_field as_i64 2 s; rows = n })

-- FileMetaData: version, schema elements, rows, row groups, writer
pub record FileMeta : Type 0 where
  pub version : Option ℤ
  pub schema : List SchemaElement
  pub rows : ℕ
  pub groups : List RowGroup
  pub created_by : Option (List ℕ)

-- the metadata of a file, or the first needed field that isn't there or is out of range: a struct's own in order of id, then those of the structs inside it
abbrev pub view_file : Struct → Result FileMeta MetaFault
view_file s = do
  es ← needed as_structs 2 s
  n ← needed_count as_i64 3 s
  gs ← needed as_structs 4 s
  elements ← each view_element es
  groups ← each view_group gs
  Ok (record { version = optional_field as_i32 1 s; schema = elements; rows = n; groups = groups; created_by = optional_field as_binary 6 s })

-- ---- PageHeader

-- DataPageHeader: number of triplets and encodings
pub record DataPageHeader : Type 0 where
  pub values : ℕ
  pub encoding : ℤ
  pub definition_encoding : ℤ
  pub repetition_encoding : ℤ

-- the data page header of a struct
abbrev pub view_data_header : Struct → Result DataPageHeader MetaFault
view_data_header s = do
  n ← needed_count as_i32 1 s
  e ← needed as_i32 2 s
  d ← needed as_i32 3 s
  r ← needed as_i32 4 s
  Ok (record { values = n; encoding = e; definition_encoding = d; repetition_encoding = r })

-- DictionaryPageHeader: number of values and encoding
pub record DictionaryPageHeader : Type 0 where
  pub values : ℕ
  pub encoding : ℤ

-- the dictionary page header of a struct
abbrev pub view_dictionary_header : Struct → Result DictionaryPageHeader MetaFault
view_dictionary_header s = do
  n ← needed_count as_i32 1 s
  e ← needed as_i32 2 s
  Ok (record { values = n; encoding = e })

-- DataPageHeaderV2: number of triplets, of NULLs and of rows, encoding, byte lengths of the level parts, whether the values are compressed
pub record DataPageHeaderV2 : Type 0 where
  pub values : ℕ
  pub nulls : Option ℤ
  pub rows : Option ℤ
  pub encoding : ℤ
  pub definition_bytes : ℕ
  pub repetition_bytes : ℕ
  pub compressed : Option Bool

-- the V2 data page header of a struct
abbrev pub view_data_header_v2 : Struct → Result DataPageHeaderV2 MetaFault
view_data_header_v2 s = do
  n ← needed_count as_i32 1 s
  e ← needed as_i32 4 s
  d ← needed_count as_i32 5 s
  r ← needed_count as_i32 6 s
  Ok (record {
    values = n;
    nulls = optional_field as_i32 2 s;
    rows = optional_field as_i32 3 s;
    encoding = e;
    definition_bytes = d;
    repetition_bytes = r;
    compressed = optional_field as_truth 7 s;
  })

-- PageHeader: type, sizes, and the header struct of the type
pub record PageHeader : Type 0 where
  pub type : ℤ
  pub uncompressed_size : Option ℤ
  pub compressed_size : ℕ
  pub data_page : Option DataPageHeader
  pub dictionary_page : Option DictionaryPageHeader
  pub data_page_v2 : Option DataPageHeaderV2

-- the header of a page; whichever header structs it has must be complete
abbrev pub view_page : Struct → Result PageHeader MetaFault
view_page s = do
  t ← needed as_i32 1 s
  z ← needed_count as_i32 3 s
  d ← where_there view_data_header (optional_field as_struct 5 s)
  dictionary ← where_there view_dictionary_header (optional_field as_struct 7 s)
  v2 ← where_there view_data_header_v2 (optional_field as_struct 8 s)
  Ok (record { type = t; uncompressed_size = optional_field as_i32 2 s; compressed_size = z; data_page = d; dictionary_page = dictionary; data_page_v2 = v2 })

-- ---- trees as they are written

-- the values of a list, each made so
abbrev pub items_of : {A : Type 0} → (A → Item) → List A → Items
items_of f [] = no_items
items_of f (x ∷ xs) = item (f x) (items_of f xs)

-- a field where there is a value, before the other fields
abbrev pub with_field : {A : Type 0} → ℕ → (A → Item) → Option A → Struct → Struct
with_field i f None s = s
with_field i f (Some a) s = struct_field (pos i) (f a) s

-- an i32 field where there is a number
abbrev pub with_i32 : ℕ → Option ℤ → Struct → Struct
with_i32 i z s = with_field i i32_item z s

-- an i64 field where there is a number
abbrev pub with_i64 : ℕ → Option ℤ → Struct → Struct
with_i64 i z s = with_field i i64_item z s

-- an i32 field of a count
abbrev pub count_i32 : ℕ → ℕ → Struct → Struct
count_i32 i n s = struct_field (pos i) (i32_item (pos n)) s

-- an i64 field of a count
abbrev pub count_i64 : ℕ → ℕ → Struct → Struct
count_i64 i n s = struct_field (pos i) (i64_item (pos n)) s

-- the struct of a schema element
abbrev pub element_tree : SchemaElement → Struct
element_tree e = with_i32 1 e.type (with_i32 2 e.type_length
    (with_i32 3 e.repetition (struct_field (pos 4) (binary_item e.name) (with_i32 5 e.children (with_i32 6 e.converted stop)))))

-- the struct of column metadata
abbrev pub column_meta_tree : ColumnMeta → Struct
column_meta_tree m = struct_field (pos 1) (i32_item m.type) (with_field 2 (λ es. list_item i32_type (items_of i32_item es)) m.encodings
    (with_field 3 (λ ns. list_item binary_type (items_of binary_item ns)) m.path
    (struct_field (pos 4) (i32_item m.codec) (count_i64 5 m.values
    (with_i64 6 m.uncompressed_size (count_i64 7 m.compressed_size (count_i64 9 m.data_page_offset (with_i64 11 m.dictionary_page_offset stop))))))))

-- the struct of a column chunk
abbrev pub chunk_tree : ColumnChunk → Struct
chunk_tree c = with_field 1 binary_item c.file_path (with_i64 2 c.file_offset (struct_field (pos 3) (struct_item (column_meta_tree c.meta)) stop))

-- a list of structs, each made so
abbrev pub structs : {A : Type 0} → (A → Struct) → List A → Item
structs f xs = list_item struct_type (items_of (λ x. struct_item (f x)) xs)

-- the struct of a row group
abbrev pub group_tree : RowGroup → Struct
group_tree g = struct_field (pos 1) (structs chunk_tree g.columns) (with_i64 2 g.total_byte_size (count_i64 3 g.rows stop))

-- the struct of a file's metadata
abbrev pub file_tree : FileMeta → Struct
file_tree m = with_i32 1 m.version (struct_field (pos 2) (structs element_tree m.schema)
    (count_i64 3 m.rows (struct_field (pos 4) (structs group_tree m.groups) (with_field 6 binary_item m.created_by stop))))

-- the struct of a data page header
abbrev pub data_header_tree : DataPageHeader → Struct
data_header_tree h = count_i32 1 h.values (struct_field (pos 2) (i32_item h.encoding)
    (struct_field (pos 3) (i32_item h.definition_encoding) (struct_field (pos 4) (i32_item h.repetition_encoding) stop)))

-- the struct of a dictionary page header
abbrev pub dictionary_header_tree : DictionaryPageHeader → Struct
dictionary_header_tree h = count_i32 1 h.values (struct_field (pos 2) (i32_item h.encoding) stop)

-- the struct of a V2 data page header
abbrev pub data_header_v2_tree : DataPageHeaderV2 → Struct
data_header_v2_tree h = count_i32 1 h.values (with_i32 2 h.nulls (with_i32 3 h.rows (struct_field (pos 4) (i32_item h.encoding)
    (count_i32 5 h.definition_bytes (count_i32 6 h.repetition_bytes (with_field 7 truth_item h.compressed stop))))))

-- the struct of a page header, whichever header structs it has
abbrev pub page_tree : PageHeader → Struct
page_tree h = struct_field (pos 1) (i32_item h.type) (with_i32 2 h.uncompressed_size
    (count_i32 3 h.compressed_size (with_field 5 (λ d. struct_item (data_header_tree d)) h.data_page
    (with_field 7 (λ d. struct_item (dictionary_header_tree d)) h.dictionary_page
    (with_field 8 (λ d. struct_item (data_header_v2_tree d)) h.data_page_v2 stop)))))
