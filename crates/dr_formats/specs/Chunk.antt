-- Column chunks: pages until the wanted triplets are taken (Apache Parquet, "Column chunks", "Data Pages").
use Rattle.std.specs.Prelude.{ℕ, zero, suc, ◌+◌, ◌-◌, List, [], ◌++◌, length, take, drop, Bool, true, false, ◌&&◌, ◌||◌, nat_le, nat_lt}
use Rattle.std.specs.Prelude.{if◌then◌else◌, ℤ, pos, Option, Some, None, option_map, option_and_then, Result, Ok, Err}
use Rattle.dr_meaning.specs.Record.{Value}
use Rattle.dr_meaning.specs.Path.{Leaf, max_repetition, max_definition}
use Rattle.dr_meaning.specs.Column.{Triplet}
use Rattle.dr_formats.specs.Reading.{Reading, got, refused, Reader, give, ◌>>=◌, bytes_of}
use Rattle.dr_formats.specs.Compact.{CompactFault, Struct, read_struct}
use Rattle.dr_formats.specs.Plain.{plain_values}
use Rattle.dr_formats.specs.Page.{data_page_v1, data_page_v2, PageShape, PageFault, bad_page, found, is_number, plain_encoding}
use Rattle.dr_formats.specs.Page.{plain_dictionary_encoding, page_triplets, triplets_read}
use Rattle.dr_formats.specs.Metadata.{MetaFault, ColumnMeta, DataPageHeader, DataPageHeaderV2, DictionaryPageHeader, PageHeader, view_page}

-- ---- pages

-- the header of the struct that was read, and the bytes behind it
abbrev pub header_viewed : List ℕ → Result PageHeader MetaFault → Reading PageFault PageHeader
header_viewed rest (Ok h) = got h rest
header_viewed rest (Err e) = refused bad_page rest

-- the header of what was read, where that is a struct with the header's fields
abbrev pub header_read : Reading CompactFault Struct → Reading PageFault PageHeader
header_read (got s rest) = header_viewed rest (view_page s)
header_read (refused e rest) = refused bad_page rest

-- a page header at the front of bytes
abbrev pub page_header : Reader PageFault PageHeader
page_header bytes = header_read (read_struct bytes)

-- what a page gives: triplets, and the chunk's dictionary from there on
pub record PageTaken : Type 0 where
  pub triplets : List Triplet
  pub dictionary : List Value

-- these triplets and this dictionary
abbrev pub taken : List Triplet → List Value → PageTaken
taken ts d = record { triplets = ts; dictionary = d }

-- what a V1 page's header and its leaf say of its body
abbrev pub shape_of_page : Leaf → DataPageHeader → PageShape
shape_of_page l h = record {
  form = data_page_v1;
  triplets = h.values;
  encoding = h.encoding;
  definition_encoding = h.definition_encoding;
  repetition_encoding = h.repetition_encoding;
  definition_bytes = 0;
  repetition_bytes = 0;
  kind = l.kind;
  max_repetition = max_repetition l.path;
  max_definition = max_definition l.path;
}

-- what a V2 page's header and its leaf say of its body: levels are always in RLE. Its numbers of NULLs and rows aren't looked at, nor whether its values
-- are compressed, since a chunk without compression has none that are
abbrev pub shape_of_page_v2 : Leaf → DataPageHeaderV2 → PageShape
shape_of_page_v2 l h = record {
  form = data_page_v2;
  triplets = h.values;
  encoding = h.encoding;
  definition_encoding = pos 3;
  repetition_encoding = pos 3;
  definition_bytes = h.definition_bytes;
  repetition_bytes = h.repetition_bytes;
  kind = l.kind;
  max_repetition = max_repetition l.path;
  max_definition = max_definition l.path;
}

-- a data page by its shape, where its header has one, if it has at most the wanted triplets
abbrev pub data_page : ℕ → List Value → List ℕ → Option PageShape → Reader PageFault PageTaken
data_page wanted dictionary body None = refused bad_page
data_page wanted dictionary body (Some s) =
    if nat_le s.triplets wanted then (do ts ← found (page_triplets s dictionary body); give (taken ts dictionary))
    else refused bad_page

-- a dictionary page, if it is the first page, with PLAIN values
abbrev pub dictionary_page : Leaf → Bool → List ℕ → Option DictionaryPageHeader → Reader PageFault PageTaken
dictionary_page l first body None = refused bad_page
dictionary_page l first body (Some h) =
    if first && (is_number plain_encoding h.encoding || is_number plain_dictionary_encoding h.encoding)
    then (do vs ← found (plain_values l.kind h.values body); give (taken [] vs))
    else refused bad_page

-- a page by its type: DATA_PAGE 0, INDEX_PAGE 1, DICTIONARY_PAGE 2, DATA_PAGE_V2 3 (parquet.thrift, PageType), with the header struct of its type; index
-- pages are passed over, any other is refused
abbrev pub page_taken : Leaf → ℕ → Bool → List Value → PageHeader → List ℕ → Reader PageFault PageTaken
page_taken l wanted first dictionary h body =
    if is_number 0 h.type then data_page wanted dictionary body (option_map (shape_of_page l) h.data_page)
    else (if is_number 1 h.type then give (taken [] dictionary)
    else (if is_number 2 h.type then dictionary_page l first body h.dictionary_page
    else (if is_number 3 h.type then data_page wanted dictionary body (option_map (shape_of_page_v2 l) h.data_page_v2)
    else refused bad_page)))

-- at most k pages, until the wanted triplets are taken; each page takes a byte at least, so there are at most as many as bytes
abbrev pub pages : Leaf → ℕ → ℕ → Bool → List Value → Reader PageFault (List Triplet)
pages l k zero first dictionary = give []
pages l zero (suc n) first dictionary = refused bad_page
pages l (suc k) (suc n) first dictionary = do
  h ← page_header
  body ← bytes_of bad_page h.compressed_size
  t ← page_taken l (suc n) first dictionary h body
  more ← pages l k (suc n - length t.triplets) false t.dictionary
  give (t.triplets ++ more)

-- the first wanted triplets of a chunk's bytes; what comes after the last needed page is ignored
abbrev pub pages_triplets : Leaf → ℕ → List ℕ → Option (List Triplet)
pages_triplets l wanted bytes = triplets_read (pages l (length bytes) wanted true [] bytes)

-- ---- chunks

-- the place of the dictionary page, where it counts, else that of the data page
abbrev pub start_from : ℕ → Option ℤ → ℕ
start_from d (Some (pos n)) = if nat_lt 0 n && nat_lt n d then n else d
start_from d z = d

-- where a chunk begins: at its dictionary page, where that is above 0 and below the data page, else at the data page
abbrev pub chunk_start : ColumnMeta → ℕ
chunk_start m = start_from m.data_page_offset m.dictionary_page_offset

-- the bytes of a chunk, if they lie between the magic and the footer
abbrev pub chunk_bytes : List ℕ → ℕ → ColumnMeta → Option (List ℕ)
chunk_bytes bytes footer m =
    if nat_le 4 (chunk_start m) && nat_le (chunk_start m + m.compressed_size) footer then Some (take m.compressed_size (drop (chunk_start m) bytes))
    else None

-- the triplets of a leaf's chunk in a file whose footer begins at this place
abbrev pub chunk_triplets : List ℕ → ℕ → Leaf → ColumnMeta → Option (List Triplet)
chunk_triplets bytes footer l m = option_and_then (pages_triplets l m.values) (chunk_bytes bytes footer m)
