-- The file that is written for records: pages, chunks, footer (Apache Parquet, "File format").
use Rattle.std.specs.Prelude.{ℕ, suc, ◌+◌, ◌-◌, ◌^◌, List, [], ◌∷◌, ◌++◌, map, length, Bool, true, false, ◌||◌, nat_le, codes, ℤ, pos, Option, Some, None}
use Rattle.dr_meaning.specs.Schema.{Repetition, required, optional, repeated, Kind, bool_kind, int32_kind, int64_kind, text_kind, Fields, no_fields}
use Rattle.dr_meaning.specs.Schema.{field, Shape, leaf, group, Schema}
use Rattle.dr_meaning.specs.Path.{Leaf, leaves, max_repetition, max_definition}
use Rattle.dr_meaning.specs.Record.{Node}
use Rattle.dr_meaning.specs.Column.{Triplet, record_column}
use Rattle.dr_meaning.specs.OneColumn.{starts}
use Rattle.dr_formats.specs.LittleEndian.{little_endian_bytes}
use Rattle.dr_formats.specs.Compact.{struct_bytes}
use Rattle.dr_formats.specs.Metadata.{SchemaElement, ColumnChunk, RowGroup, FileMeta, PageHeader, page_tree, file_tree}
use Rattle.dr_formats.specs.Plain.{plain_bytes}
use Rattle.dr_formats.specs.Page.{PageForm, data_page_v1, data_page_v2, level_data, column_repetitions, column_definitions, column_values, body_bytes}
use Rattle.dr_formats.specs.File.{magic}

-- ---- pages

-- the triplets with which a page is full, 4,096
abbrev pub enough_triplets : ℕ
enough_triplets = 4096

-- the bytes of PLAIN values with which a page is full, 1,048,576
abbrev pub enough_bytes : ℕ
enough_bytes = 2 ^ 20

-- whether a page closes at the end of its last record
abbrev pub is_full : Kind → List Triplet → Bool
is_full k ts = nat_le enough_triplets (length ts) || nat_le enough_bytes (length (plain_bytes k (column_values ts)))

-- the page that is open at the end, unless it is empty
abbrev pub last_page : List Triplet → List (List Triplet)
last_page [] = []
last_page (t ∷ ts) = (t ∷ ts) ∷ []

-- the page, if it closes
abbrev pub closed_page : Bool → List Triplet → List (List Triplet)
closed_page true ts = ts ∷ []
closed_page false ts = []

-- the page that is open behind it
abbrev pub open_page : Bool → List Triplet → List Triplet
open_page true ts = []
open_page false ts = ts

-- the pages of the columns of records, one after another, where the page that is open has these triplets: a page closes at the first record's end at
-- which it is full, and at the last
abbrev pub cut_pages : Kind → List Triplet → List (List Triplet) → List (List Triplet)
cut_pages k page [] = last_page page
cut_pages k page (c ∷ cs) = closed_page (is_full k (page ++ c)) (page ++ c) ++ cut_pages k (open_page (is_full k (page ++ c)) (page ++ c)) cs

-- how many triplets have no value
abbrev pub null_count : List Triplet → ℕ
null_count ts = length ts - length (column_values ts)

-- the header of a page as it is written, of a leaf with these greatest levels: DATA_PAGE or DATA_PAGE_V2, both sizes the body's, values PLAIN; V1 levels in
-- RLE; V2 with the numbers of NULLs and of rows, the lengths of the level parts, and no compression
abbrev pub header_of_page : PageForm → ℕ → ℕ → List Triplet → ℕ → PageHeader
header_of_page data_page_v1 max_r max_d ts size = record {
  type = pos 0;
  uncompressed_size = Some (pos size);
  compressed_size = size;
  data_page = Some (record { values = length ts; encoding = pos 0; definition_encoding = pos 3; repetition_encoding = pos 3 });
  dictionary_page = None;
  data_page_v2 = None;
}
header_of_page data_page_v2 max_r max_d ts size = record {
  type = pos 3;
  uncompressed_size = Some (pos size);
  compressed_size = size;
  data_page = None;
  dictionary_page = None;
  data_page_v2 = Some (record {
    values = length ts;
    nulls = Some (pos (null_count ts));
    rows = Some (pos (starts ts));
    encoding = pos 0;
    definition_bytes = length (level_data max_d (column_definitions ts));
    repetition_bytes = length (level_data max_r (column_repetitions ts));
    compressed = Some false;
  });
}

-- the body of a page of a leaf
abbrev pub leaf_body : PageForm → Leaf → List Triplet → List ℕ
leaf_body form l ts = body_bytes form l.kind (max_repetition l.path) (max_definition l.path) ts

-- the bytes of its header
abbrev pub page_head_bytes : PageForm → Leaf → List Triplet → List ℕ
page_head_bytes form l ts = struct_bytes (page_tree (header_of_page form (max_repetition l.path) (max_definition l.path) ts (length (leaf_body form l ts))))

-- a page of a leaf
abbrev pub page_bytes : PageForm → Leaf → List Triplet → List ℕ
page_bytes form l ts = page_head_bytes form l ts ++ leaf_body form l ts

-- pages, one after another
abbrev pub pages_bytes : PageForm → Leaf → List (List Triplet) → List ℕ
pages_bytes form l [] = []
pages_bytes form l (p ∷ ps) = page_bytes form l p ++ pages_bytes form l ps

-- ---- chunks

-- the column of each record
abbrev pub record_columns : Leaf → List Node → List (List Triplet)
record_columns l R = map (record_column l.path) R

-- the bytes of a leaf's chunk
abbrev pub written_chunk : PageForm → Leaf → List Node → List ℕ
written_chunk form l R = pages_bytes form l (cut_pages l.kind [] (record_columns l R))

-- how many triplets lists have together
abbrev pub triplet_count : List (List Triplet) → ℕ
triplet_count [] = 0
triplet_count (c ∷ cs) = length c + triplet_count cs

-- the type of a kind: BOOLEAN 0, INT32 1, INT64 2, BYTE_ARRAY 6
abbrev pub type_from : Kind → ℕ
type_from bool_kind = 0
type_from int32_kind = 1
type_from int64_kind = 2
type_from text_kind = 6

-- the column chunk of a leaf, for a chunk of so many bytes at a place
abbrev pub chunk_at : Leaf → List Node → ℕ → ℕ → ColumnChunk
chunk_at l R place size = record {
  file_path = None;
  file_offset = Some (pos place);
  meta = record {
    type = pos (type_from l.kind);
    encodings = Some (pos 0 ∷ pos 3 ∷ []);
    path = Some l.names;
    codec = pos 0;
    values = triplet_count (record_columns l R);
    uncompressed_size = Some (pos size);
    compressed_size = size;
    data_page_offset = place;
    dictionary_page_offset = None;
  };
}

-- the chunks of leaves, one after another from a place on: their bytes, and their column chunks
pub record WrittenChunks : Type 0 where
  pub bytes : List ℕ
  pub columns : List ColumnChunk

-- a chunk before the others
abbrev pub put_chunk : List ℕ → ColumnChunk → WrittenChunks → WrittenChunks
put_chunk bytes c w = record { bytes = bytes ++ w.bytes; columns = c ∷ w.columns }

-- a chunk at a place and those behind it
abbrev pub chunk_and_rest : Leaf → List Node → ℕ → List ℕ → (ℕ → WrittenChunks) → WrittenChunks
chunk_and_rest l R place bytes rest = put_chunk bytes (chunk_at l R place (length bytes)) (rest (place + length bytes))

-- the chunks of these leaves from a place on
abbrev pub chunks_from : PageForm → List Node → List Leaf → ℕ → WrittenChunks
chunks_from form R [] place = record { bytes = []; columns = [] }
chunks_from form R (l ∷ ls) place = chunk_and_rest l R place (written_chunk form l R) (chunks_from form R ls)

-- ---- schema elements

-- the number of a repetition: REQUIRED 0, OPTIONAL 1, REPEATED 2
abbrev pub repetition_number : Repetition → ℕ
repetition_number required = 0
repetition_number optional = 1
repetition_number repeated = 2

-- the converted type of a kind: UTF8 0 for texts
abbrev pub converted_from : Kind → Option ℤ
converted_from bool_kind = None
converted_from int32_kind = None
converted_from int64_kind = None
converted_from text_kind = Some (pos 0)

-- how many fields a group has
abbrev pub count_fields : Fields → ℕ
count_fields no_fields = 0
count_fields (field n r s fs) = suc (count_fields fs)

-- the schema element of a leaf
abbrev pub leaf_element : List ℕ → Repetition → Kind → SchemaElement
leaf_element n r k = record {
  type = Some (pos (type_from k));
  type_length = None;
  repetition = Some (pos (repetition_number r));
  name = n;
  children = None;
  converted = converted_from k;
}

-- the schema element of a group
abbrev pub group_element : List ℕ → Option ℤ → Fields → SchemaElement
group_element n r fs = record { type = None; type_length = None; repetition = r; name = n; children = Some (pos (count_fields fs)); converted = None }

abbrev mutual
  -- the schema elements of fields, depth first
  pub elements : Fields → List SchemaElement
  elements no_fields = []
  elements (field n r s fs) = shape_elements n r s ++ elements fs

  -- the schema elements of a field
  pub shape_elements : List ℕ → Repetition → Shape → List SchemaElement
  shape_elements n r (leaf k) = leaf_element n r k ∷ []
  shape_elements n r (group fs) = group_element n (Some (pos (repetition_number r))) fs ∷ elements fs

-- the schema elements of a schema: the root, which has no repetition, and then the fields depth first
abbrev pub schema_elements : Schema → List SchemaElement
schema_elements s = group_element s.name None s.fields ∷ elements s.fields

-- ---- the file

-- one row group of these chunks
abbrev pub written_groups : ℕ → WrittenChunks → List RowGroup
written_groups rows w = record { columns = w.columns; total_byte_size = Some (pos (length w.bytes)); rows = rows } ∷ []

-- the metadata of a file of so many rows
abbrev pub file_meta : Schema → ℕ → List RowGroup → FileMeta
file_meta s rows gs = record { version = Some (pos 1); schema = schema_elements s; rows = rows; groups = gs; created_by = Some (codes "dremel-nested 1") }

-- a file: magic, chunks, footer, the footer's length, magic
abbrev pub framed : List ℕ → List ℕ → List ℕ
framed chunks footer = magic ++ (chunks ++ (footer ++ (little_endian_bytes 4 (length footer) ++ magic)))

-- the chunks of records, with the leaves in schema order from place 4 on; without records there are none
abbrev pub written_chunks : PageForm → Schema → List Node → WrittenChunks
written_chunks form s [] = record { bytes = []; columns = [] }
written_chunks form s (n ∷ ns) = chunks_from form (n ∷ ns) (leaves s.fields) 4

-- the row groups of records: none without records, else one
abbrev pub groups_of : PageForm → Schema → List Node → List RowGroup
groups_of form s [] = []
groups_of form s (n ∷ ns) = written_groups (length (n ∷ ns)) (written_chunks form s (n ∷ ns))

-- the metadata of the file of these records
abbrev pub written_meta : PageForm → Schema → List Node → FileMeta
written_meta form s R = file_meta s (length R) (groups_of form s R)

-- the footer of the file of these records
abbrev pub written_footer : PageForm → Schema → List Node → List ℕ
written_footer form s R = struct_bytes (file_tree (written_meta form s R))

-- the file that is written for records, with pages of this form
unfoldable pub file_bytes : PageForm → Schema → List Node → List ℕ
file_bytes form s R = framed (written_chunks form s R).bytes (written_footer form s R)
