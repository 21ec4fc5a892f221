-- Files that another writer may have made, by computation: a dictionary, a column that is closed, another codec.
use Rattle.std.specs.Prelude.{◌≡◌, ℕ, List, [], ◌∷◌, pos, Some, None, codes, refl, Ok, Err}
use Rattle.dr_meaning.specs.Schema.{Schema, no_fields, field, leaf, required, int64_kind}
use Rattle.dr_meaning.specs.Path.{leaves}
use Rattle.dr_meaning.specs.Record.{Node, no_slots, slot, no_instances, instance, atom, int_value}
use Rattle.dr_formats.specs.Compact.{read_struct, struct_bytes}
use Rattle.dr_formats.specs.Hybrid.{hybrid}
use Rattle.dr_formats.specs.Page.{page_triplets}
use Rattle.dr_formats.specs.Metadata.{SchemaElement, ColumnChunk, FileMeta, file_tree}
use Rattle.dr_formats.specs.File.{bad_footer, bad_schema, bad_codec, bad_data, HasCause, IsFileOf, footer_of, schema_of_file}
use Rattle.dr_formats.specs.Writing.{framed, leaf_element}
use Rattle.dr_formats.proofs.FileLemmas.{known_cause_holds}
use Rattle.dr_formats.proofs.WorkedFiles.{one_schema, one_file}
use Rattle.dr_formats.proofs.WorkedDamaged.{changed, footer_or, one_leaf}

-- a dictionary page of 7 and 9 and a page of three of its values
abbrev pub dictionary_chunk : List ℕ → List ℕ
dictionary_chunk body =
    21 ∷ 4 ∷ 21 ∷ 32 ∷ 21 ∷ 32 ∷ 76 ∷ 21 ∷ 4 ∷ 21 ∷ 0 ∷ 0 ∷ 0 ∷
    7 ∷ 0 ∷ 0 ∷ 0 ∷ 0 ∷ 0 ∷ 0 ∷ 0 ∷ 9 ∷ 0 ∷ 0 ∷ 0 ∷ 0 ∷ 0 ∷ 0 ∷ 0 ∷
    21 ∷ 0 ∷ 21 ∷ 6 ∷ 21 ∷ 6 ∷ 44 ∷ 21 ∷ 6 ∷ 21 ∷ 16 ∷ 21 ∷ 6 ∷ 21 ∷ 6 ∷ 0 ∷ 0 ∷ body

abbrev pub chunk : ℕ → ℕ → List ℕ → ℕ → ℕ → ColumnChunk
chunk type codec name size place = record { file_path = None; file_offset = None; meta = record { type = pos type; encodings = None; path = None; codec = pos codec; values = 3; uncompressed_size = None; compressed_size = size; data_page_offset = place; dictionary_page_offset = Some (pos 4) } }

abbrev pub meta : List SchemaElement → List ColumnChunk → FileMeta
meta es cs = record { version = None; schema = es; rows = 3; groups = record { columns = cs; total_byte_size = None; rows = 3 } ∷ []; created_by = None }

abbrev pub column_a : SchemaElement
column_a = leaf_element (codes "a") required int64_kind

-- a column of DOUBLE beside it
abbrev pub column_b : SchemaElement
column_b = record { type = Some (pos 5); type_length = None; repetition = Some (pos 0); name = codes "b"; children = None; converted = None }

abbrev pub root : ℕ → SchemaElement
root n = record { type = None; type_length = None; repetition = None; name = codes "T"; children = Some (pos n); converted = None }

abbrev pub dictionary_file : List ℕ → List ℕ
dictionary_file body = framed (dictionary_chunk body) (struct_bytes (file_tree (meta (root 1 ∷ column_a ∷ []) (chunk 2 0 (codes "a") 49 33 ∷ []))))

-- the column of doubles has a chunk of no bytes that anything reads
abbrev pub foreign_file : ℕ → List ℕ
foreign_file codec = framed (dictionary_chunk (1 ∷ 3 ∷ 2 ∷ [])) (struct_bytes (file_tree (meta (root 2 ∷ column_a ∷ column_b ∷ []) (chunk 2 codec (codes "a") 49 33 ∷ chunk 5 0 (codes "b") 0 53 ∷ []))))

abbrev pub number : ℕ → Node
number n = slot (instance (atom (int_value (pos n))) no_instances) no_slots

-- three records, of the dictionary's values 0, 1, 0
pub reads_dictionary : IsFileOf (dictionary_file (1 ∷ 3 ∷ 2 ∷ [])) one_schema one_leaf (number 7 ∷ number 9 ∷ number 7 ∷ [])
unfolding footer_of read_struct struct_bytes page_triplets hybrid
reads_dictionary = (footer_or (footer_of (dictionary_file (1 ∷ 3 ∷ 2 ∷ []))), refl, refl, refl, (refl, refl, refl, refl, refl))

-- an index past the dictionary
pub index_past_dictionary : HasCause (dictionary_file (2 ∷ 3 ∷ 8 ∷ [])) one_schema one_leaf bad_data
unfolding footer_of read_struct struct_bytes page_triplets hybrid
index_past_dictionary = known_cause_holds (dictionary_file (2 ∷ 3 ∷ 8 ∷ [])) one_schema one_leaf bad_data refl

-- indices of 33 bits
pub width_33 : HasCause (dictionary_file (33 ∷ 3 ∷ 2 ∷ [])) one_schema one_leaf bad_data
unfolding footer_of read_struct struct_bytes page_triplets hybrid
width_33 = known_cause_holds (dictionary_file (33 ∷ 3 ∷ 2 ∷ [])) one_schema one_leaf bad_data refl

-- a closed column beside it doesn't matter
pub reads_beside_double : IsFileOf (foreign_file 0) one_schema one_leaf (number 7 ∷ number 9 ∷ number 7 ∷ [])
unfolding footer_of read_struct struct_bytes page_triplets hybrid
reads_beside_double = (footer_or (footer_of (foreign_file 0)), refl, refl, refl, (refl, refl, refl, refl, refl))

-- the column's own codec does
pub compressed : HasCause (foreign_file 1) one_schema one_leaf bad_codec
unfolding footer_of read_struct struct_bytes page_triplets hybrid
compressed = known_cause_holds (foreign_file 1) one_schema one_leaf bad_codec refl

-- a schema that names the doubles as whole numbers
abbrev pub wrong_schema : Schema
wrong_schema = record { name = codes "T"; fields = field (codes "b") required (leaf int64_kind) no_fields }

pub closed_column : HasCause (foreign_file 0) wrong_schema (leaves wrong_schema.fields) bad_schema
unfolding footer_of read_struct struct_bytes page_triplets hybrid
closed_column = known_cause_holds (foreign_file 0) wrong_schema (leaves wrong_schema.fields) bad_schema refl

-- the open part of the schema of either file
pub open_part : schema_of_file (foreign_file 0) ≡ Ok one_schema
unfolding footer_of read_struct struct_bytes
open_part = refl

pub written_schema : schema_of_file one_file ≡ Ok one_schema
unfolding footer_of read_struct
written_schema = refl

-- a file whose only leaf has the type DOUBLE, and bytes that aren't framed, have none
pub no_schema_is_shown : (schema_of_file (changed 40 10 one_file) ≡ Err bad_schema) × (schema_of_file [] ≡ Err bad_footer)
unfolding footer_of read_struct
no_schema_is_shown = (refl, refl)
