-- The structs of the metadata, by computation: each with a number of its own in each field; each needed field away, and out of range.
use Rattle.std.specs.Prelude.{◌≡◌, ℕ, List, [], ◌∷◌, map, Bool, true, false, ℤ, pos, neg_ℤ, int_le, ◌&&◌, if◌then◌else◌, Option, Some, None, Result, Ok, Err, codes, refl}
use Rattle.dr_formats.specs.Reading.{Reading, got, refused}
use Rattle.dr_formats.specs.Compact.{struct_bytes, CompactFault, Struct, stop, struct_field, Item, i32_item, i64_item, binary_item, list_item, struct_item, truth_item, i64_type, struct_type, no_items, item, read_struct}
use Rattle.dr_formats.specs.Metadata.{page_tree, MetaFault, missing, out_of_range, view_element, view_column_meta, view_chunk, view_group, view_file, view_data_header, view_dictionary_header, view_data_header_v2, view_page}
use Rattle.dr_formats.proofs.Hexadecimal.{hex}

-- what the struct in these bytes is viewed as
abbrev of_reading : {A : Type 0} → (Struct → Result A MetaFault) → Reading CompactFault Struct → Option (Result A MetaFault)
of_reading view (got s rest) = Some (view s)
of_reading view (refused e rest) = None

abbrev viewed : {A : Type 0} → (Struct → Result A MetaFault) → List ℕ → Option (Result A MetaFault)
viewed view bytes = of_reading view (read_struct bytes)

abbrev z : ℕ → ℤ
z n = neg_ℤ (pos n)

-- ---- fields by their ids; those that aren't known are passed over

-- PageHeader 1 to 3, 5, 7, 8 and in them DataPageHeader 1 to 4, DictionaryPageHeader 1 and 2, DataPageHeaderV2 1 to 7
pub page_header : viewed view_page (hex (codes "15061516151815C6011C151A151C151E15201C18017800002C1522152411001C15261528152A152C152E1530120000")) ≡ Some (Ok (record {
  type = pos 3;
  uncompressed_size = Some (pos 11);
  compressed_size = 12;
  data_page = Some (record { values = 13; encoding = pos 14; definition_encoding = pos 15; repetition_encoding = pos 16 });
  dictionary_page = Some (record { values = 17; encoding = pos 18 });
  data_page_v2 = Some (record { values = 19; nulls = Some (pos 20); rows = Some (pos 21); encoding = pos 22; definition_bytes = 23; repetition_bytes = 24; compressed = Some false });
}))
unfolding read_struct
page_header = refl

-- SchemaElement 1 to 6
pub schema_element : viewed view_element (hex (codes "15021504150518026162150A150C150E25121C1C000000")) ≡ Some (Ok (record { type = Some (pos 1); type_length = Some (pos 2); repetition = Some (z 3); name = codes "ab"; children = Some (pos 5); converted = Some (pos 6) }))
unfolding read_struct
schema_element = refl

-- ColumnChunk 1 to 3 and in it ColumnMetaData 1 to 7, 9, 11; those that aren't needed may be negative
pub column_chunk : viewed view_chunk (hex (codes "18017016031C1502192504031928016101621507160A160B160E190C1612161416151C00001608150A00")) ≡ Some (Ok (record {
  file_path = Some (codes "p");
  file_offset = Some (z 2);
  meta = record {
    type = pos 1;
    encodings = Some (pos 2 ∷ z 2 ∷ []);
    path = Some (codes "a" ∷ codes "b" ∷ []);
    codec = z 4;
    values = 5;
    uncompressed_size = Some (z 6);
    compressed_size = 7;
    data_page_offset = 9;
    dictionary_page_offset = Some (z 11);
  };
}))
unfolding read_struct
column_chunk = refl

-- RowGroup 1 to 3
pub row_group : viewed view_group (hex (codes "191C3C15023508160A260E2612000016031606190C160A00")) ≡ Some (Ok (record {
  columns = record {
    file_path = None;
    file_offset = None;
    meta = record {
      type = pos 1;
      encodings = None;
      path = None;
      codec = pos 4;
      values = 5;
      uncompressed_size = None;
      compressed_size = 7;
      data_page_offset = 9;
      dictionary_page_offset = None;
    };
  } ∷ [];
  total_byte_size = Some (z 2);
  rows = 3;
}))
unfolding read_struct
row_group = refl

-- FileMetaData 1 to 4 and 6
pub file_metadata : viewed view_file (hex (codes "1502191C4801721500001606191C190C260600190C180177190C00")) ≡ Some (Ok (record {
  version = Some (pos 1);
  schema = record { type = None; type_length = None; repetition = None; name = codes "r"; children = Some (pos 0); converted = None } ∷ [];
  rows = 3;
  groups = record { columns = []; total_byte_size = None; rows = 3 } ∷ [];
  created_by = Some (codes "w");
}))
unfolding read_struct
file_metadata = refl

-- ---- needed fields

-- the struct without the field of this id; with another value in it
abbrev is_id : ℕ → ℤ → Bool
is_id i j = int_le (pos i) j && int_le j (pos i)

abbrev without : ℕ → Struct → Struct
without i stop = stop
without i (struct_field j x s) = if is_id i j then without i s else struct_field j x (without i s)

abbrev with_value : ℕ → Item → Struct → Struct
with_value i y stop = stop
with_value i y (struct_field j x s) = struct_field j (if is_id i j then y else x) (with_value i y s)

-- the fault of each struct, and none where it is complete
abbrev fault : {A : Type 0} → Result A MetaFault → Option MetaFault
fault (Ok a) = None
fault (Err e) = Some e

abbrev away : {A : Type 0} → (Struct → Result A MetaFault) → Struct → List ℕ → List (Option MetaFault)
away view s ids = map (λ i. fault (view (without i s))) ids

-- with a text, or with a negative number of the field's type
abbrev other_type : {A : Type 0} → (Struct → Result A MetaFault) → Struct → List ℕ → List (Option MetaFault)
other_type view s ids = map (λ i. fault (view (with_value i (double_text) s))) ids
  where
    double_text : Item
    double_text = list_item i64_type no_items

abbrev negative : {A : Type 0} → (Struct → Result A MetaFault) → (ℤ → Item) → Struct → List ℕ → List (Option MetaFault)
negative view number s ids = map (λ i. fault (view (with_value i (number (z 1)) s))) ids

abbrev i32 : ℕ → Struct → Struct
i32 i s = struct_field (pos i) (i32_item (pos i)) s

abbrev i64 : ℕ → Struct → Struct
i64 i s = struct_field (pos i) (i64_item (pos i)) s

abbrev structs : Item
structs = list_item struct_type no_items

abbrev data_header : Struct
data_header = i32 1 (i32 2 (i32 3 (i32 4 stop)))

abbrev dictionary_header : Struct
dictionary_header = i32 1 (i32 2 stop)

abbrev data_header_v2 : Struct
data_header_v2 = i32 1 (i32 2 (i32 3 (i32 4 (i32 5 (i32 6 (struct_field (pos 7) (truth_item true) stop))))))

abbrev column_meta : Struct
column_meta = i32 1 (i32 4 (i64 5 (i64 6 (i64 7 (i64 9 (i64 11 stop))))))

abbrev chunk : Struct
chunk = struct_field (pos 1) (binary_item []) (i64 2 (struct_field (pos 3) (struct_item column_meta) stop))

abbrev group : Struct
group = struct_field (pos 1) structs (i64 2 (i64 3 stop))

abbrev file : Struct
file = i32 1 (struct_field (pos 2) structs (i64 3 (struct_field (pos 4) structs (struct_field (pos 6) (binary_item []) stop))))

abbrev page : Struct
page = i32 1 (i32 2 (i32 3 (struct_field (pos 5) (struct_item data_header) (struct_field (pos 7) (struct_item dictionary_header) (struct_field (pos 8) (struct_item data_header_v2) stop)))))

abbrev element : Struct
element = i32 1 (i32 2 (i32 3 (struct_field (pos 4) (binary_item []) (i32 5 (i32 6 stop)))))

abbrev M : ℕ → Option MetaFault
M i = Some (missing i)

abbrev O : ℕ → Option MetaFault
O i = Some (out_of_range i)

abbrev N : Option MetaFault
N = None

-- which fields are needed
pub needed_fields : (away view_data_header data_header (1 ∷ 2 ∷ 3 ∷ 4 ∷ 9 ∷ []) ≡ M 1 ∷ M 2 ∷ M 3 ∷ M 4 ∷ N ∷ []) × (away view_dictionary_header dictionary_header (1 ∷ 2 ∷ []) ≡ M 1 ∷ M 2 ∷ [])
    × (away view_data_header_v2 data_header_v2 (1 ∷ 2 ∷ 3 ∷ 4 ∷ 5 ∷ 6 ∷ 7 ∷ []) ≡ M 1 ∷ N ∷ N ∷ M 4 ∷ M 5 ∷ M 6 ∷ N ∷ []) × (away view_column_meta column_meta (1 ∷ 4 ∷ 5 ∷ 6 ∷ 7 ∷ 9 ∷ 11 ∷ []) ≡ M 1 ∷ M 4 ∷ M 5 ∷ N ∷ M 7 ∷ M 9 ∷ N ∷ [])
    × (away view_chunk chunk (1 ∷ 2 ∷ 3 ∷ []) ≡ N ∷ N ∷ M 3 ∷ []) × (away view_group group (1 ∷ 2 ∷ 3 ∷ []) ≡ M 1 ∷ N ∷ M 3 ∷ []) × (away view_file file (1 ∷ 2 ∷ 3 ∷ 4 ∷ 6 ∷ []) ≡ N ∷ M 2 ∷ M 3 ∷ M 4 ∷ N ∷ [])
    × (away view_page page (1 ∷ 2 ∷ 3 ∷ 5 ∷ 7 ∷ 8 ∷ []) ≡ M 1 ∷ N ∷ M 3 ∷ N ∷ N ∷ N ∷ []) × (away view_element element (1 ∷ 2 ∷ 3 ∷ 4 ∷ 5 ∷ 6 ∷ []) ≡ N ∷ N ∷ N ∷ M 4 ∷ N ∷ N ∷ [])
needed_fields = (refl, refl, refl, refl, refl, refl, refl, refl, refl)

-- a field of another type counts as not there, also a list of another element type
pub other_types : (other_type view_data_header data_header (1 ∷ 2 ∷ 3 ∷ 4 ∷ []) ≡ M 1 ∷ M 2 ∷ M 3 ∷ M 4 ∷ []) × (other_type view_data_header_v2 data_header_v2 (1 ∷ 2 ∷ 3 ∷ 4 ∷ 5 ∷ 6 ∷ 7 ∷ []) ≡ M 1 ∷ N ∷ N ∷ M 4 ∷ M 5 ∷ M 6 ∷ N ∷ [])
    × (other_type view_column_meta column_meta (1 ∷ 4 ∷ 5 ∷ 6 ∷ 7 ∷ 9 ∷ 11 ∷ []) ≡ M 1 ∷ M 4 ∷ M 5 ∷ N ∷ M 7 ∷ M 9 ∷ N ∷ []) × (other_type view_file file (1 ∷ 2 ∷ 3 ∷ 4 ∷ 6 ∷ []) ≡ N ∷ M 2 ∷ M 3 ∷ M 4 ∷ N ∷ [])
    × (other_type view_group group (1 ∷ 3 ∷ []) ≡ M 1 ∷ M 3 ∷ []) × (other_type view_chunk chunk (1 ∷ 3 ∷ []) ≡ N ∷ M 3 ∷ []) × (other_type view_page page (1 ∷ 3 ∷ 5 ∷ 7 ∷ 8 ∷ []) ≡ M 1 ∷ M 3 ∷ N ∷ N ∷ N ∷ []) × (other_type view_element element (4 ∷ []) ≡ M 4 ∷ [])
other_types = (refl, refl, refl, refl, refl, refl, refl, refl)

-- a number of i64 where i32 is said isn't there either, nor the other way round
pub other_widths : (fault (view_data_header (with_value 1 (i64_item (pos 1)) data_header)) ≡ M 1) × (fault (view_column_meta (with_value 5 (i32_item (pos 5)) column_meta)) ≡ M 5) × (fault (view_column_meta (with_value 1 (i64_item (pos 5)) column_meta)) ≡ M 1)
other_widths = (refl, refl, refl)

-- numbers of values and rows, sizes, offsets and byte lengths that are needed aren't negative; types, codecs and encodings may be any number
pub negative_numbers : (negative view_data_header i32_item data_header (1 ∷ 2 ∷ 3 ∷ 4 ∷ []) ≡ O 1 ∷ N ∷ N ∷ N ∷ []) × (negative view_dictionary_header i32_item dictionary_header (1 ∷ 2 ∷ []) ≡ O 1 ∷ N ∷ [])
    × (negative view_data_header_v2 i32_item data_header_v2 (1 ∷ 2 ∷ 3 ∷ 4 ∷ 5 ∷ 6 ∷ []) ≡ O 1 ∷ N ∷ N ∷ N ∷ O 5 ∷ O 6 ∷ []) × (negative view_column_meta i32_item column_meta (1 ∷ 4 ∷ []) ≡ N ∷ N ∷ []) × (negative view_column_meta i64_item column_meta (5 ∷ 6 ∷ 7 ∷ 9 ∷ 11 ∷ []) ≡ O 5 ∷ N ∷ O 7 ∷ O 9 ∷ N ∷ [])
    × (negative view_group i64_item group (2 ∷ 3 ∷ []) ≡ N ∷ O 3 ∷ []) × (negative view_file i64_item file (3 ∷ []) ≡ O 3 ∷ []) × (negative view_page i32_item page (1 ∷ 2 ∷ 3 ∷ []) ≡ N ∷ N ∷ O 3 ∷ [])
negative_numbers = (refl, refl, refl, refl, refl, refl, refl, refl)

-- a header struct that is there must be complete, whatever the page's type is
pub incomplete_headers : (fault (view_page (with_value 5 (struct_item (without 4 data_header)) page)) ≡ M 4) × (fault (view_page (with_value 7 (struct_item (without 2 dictionary_header)) page)) ≡ M 2) × (fault (view_page (with_value 8 (struct_item (without 6 data_header_v2)) page)) ≡ M 6)
incomplete_headers = (refl, refl, refl)

-- the first fault: a struct's own fields by id, then those of the structs inside it, in order
pub first_faults : (fault (view_data_header (without 3 (with_value 1 (i32_item (z 1)) data_header))) ≡ O 1) × (fault (view_file (without 4 (with_value 2 (list_item struct_type (item (struct_item stop) no_items)) file))) ≡ M 4)
    × (fault (view_file (with_value 4 (list_item struct_type (item (struct_item stop) no_items)) (with_value 2 (list_item struct_type (item (struct_item stop) no_items)) file))) ≡ M 4)
    × (fault (view_group (without 3 (with_value 1 (list_item struct_type (item (struct_item stop) no_items)) group))) ≡ M 3) × (fault (view_page (with_value 7 (struct_item stop) (with_value 5 (struct_item (without 3 data_header)) page))) ≡ M 3)
first_faults = (refl, refl, refl, refl, refl)

-- the header of a dictionary page is written with its header struct as field 7, without V1 or V2 header
pub dictionary_header_bytes : struct_bytes (page_tree (record { type = pos 2; uncompressed_size = Some (pos 16); compressed_size = 16; data_page = None; dictionary_page = Some (record { values = 2; encoding = pos 0 }); data_page_v2 = None })) ≡ hex (codes "1504 1520 1520 4C 1504 1500 00 00")
unfolding struct_bytes
dictionary_header_bytes = refl
