-- Damaged files, by computation: each changes the worked file of one record, and has the cause that is told, for its one leaf.
use Rattle.std.specs.Prelude.{ℕ, ◌+◌, ◌-◌, ◌*◌, List, [], ◌∷◌, ◌++◌, take, drop, replicate, Option, Some, None, refl}
use Rattle.dr_meaning.specs.Path.{Leaf, leaves}
use Rattle.dr_formats.specs.Compact.{read_struct}
use Rattle.dr_formats.specs.Hybrid.{hybrid}
use Rattle.dr_formats.specs.Page.{page_triplets}
use Rattle.dr_formats.specs.FileSchema.{no_file_fields}
use Rattle.dr_formats.specs.File.{FileCause, bad_footer, bad_schema, bad_codec, bad_data, HasCause, IsFileOf, Footer, footer_of}
use Rattle.dr_formats.proofs.FileLemmas.{known_cause_holds}
use Rattle.dr_formats.proofs.WorkedFiles.{one_schema, one_record, one_file}

abbrev pub one_leaf : List Leaf
one_leaf = leaves one_schema.fields

-- the byte at a place is another
abbrev pub changed : ℕ → ℕ → List ℕ → List ℕ
changed i b bytes = take i bytes ++ b ∷ drop (i + 1) bytes

-- the footer, where there is one
abbrev pub footer_or : Option Footer → Footer
footer_or None = record { place = 0; meta = record { version = None; schema = []; rows = 0; groups = []; created_by = None }; schema = record { name = []; fields = no_file_fields } }
footer_or (Some f) = f

abbrev pub Refused : List ℕ → FileCause → Type 0
Refused bytes c = HasCause bytes one_schema one_leaf c

abbrev pub Accepted : List ℕ → Type 0
Accepted bytes = IsFileOf bytes one_schema one_leaf (one_record ∷ [])

-- a field of the metadata that isn't known, of so many structs in one another, before its stop, with the footer's length mended
abbrev pub nested : ℕ → List ℕ
nested n = take 100 one_file ++ (156 ∷ replicate (n - 1) 28) ++ replicate n 0 ++ (0 ∷ (72 + 2 * n) ∷ 0 ∷ 0 ∷ 0 ∷ drop 105 one_file)

-- ---- accepted

-- as it is written
pub as_written : Accepted (one_file)
unfolding footer_of read_struct page_triplets hybrid
as_written = (footer_or (footer_of (one_file)), refl, refl, refl, (refl, refl, refl, refl, refl))

-- another uncompressed size in the page header, which isn't looked at
pub other_uncompressed_size : Accepted (changed 7 0 one_file)
unfolding footer_of read_struct page_triplets hybrid
other_uncompressed_size = (footer_or (footer_of (changed 7 0 one_file)), refl, refl, refl, (refl, refl, refl, refl, refl))

-- another encoding of definition levels, of which there are none
pub unused_definition_encoding : Accepted (changed 16 8 one_file)
unfolding footer_of read_struct page_triplets hybrid
unused_definition_encoding = (footer_or (footer_of (changed 16 8 one_file)), refl, refl, refl, (refl, refl, refl, refl, refl))

-- a field that isn't known, of 31 structs in one another
pub nested_31 : Accepted (nested 31)
unfolding footer_of read_struct page_triplets hybrid
nested_31 = (footer_or (footer_of (nested 31)), refl, refl, refl, (refl, refl, refl, refl, refl))

-- ---- no footer

-- the last byte is away
pub last_byte_away : Refused (take 108 one_file) bad_footer
unfolding footer_of read_struct page_triplets hybrid
last_byte_away = known_cause_holds (take 108 one_file) one_schema one_leaf bad_footer refl

-- the empty file
pub no_bytes : Refused ([]) bad_footer
unfolding footer_of read_struct page_triplets hybrid
no_bytes = known_cause_holds ([]) one_schema one_leaf bad_footer refl

-- a file of 11 bytes
pub eleven_bytes : Refused (take 11 one_file) bad_footer
unfolding footer_of read_struct page_triplets hybrid
eleven_bytes = known_cause_holds (take 11 one_file) one_schema one_leaf bad_footer refl

-- a footer longer than the file
pub footer_past_file : Refused (changed 104 255 (changed 103 255 (changed 102 255 (changed 101 255 one_file)))) bad_footer
unfolding footer_of read_struct page_triplets hybrid
footer_past_file = known_cause_holds (changed 104 255 (changed 103 255 (changed 102 255 (changed 101 255 one_file)))) one_schema one_leaf bad_footer refl

-- a footer that reaches before the first magic's end
pub footer_past_magic : Refused (changed 101 98 one_file) bad_footer
unfolding footer_of read_struct page_triplets hybrid
footer_past_magic = known_cause_holds (changed 101 98 one_file) one_schema one_leaf bad_footer refl

-- a field of the type 14
pub unknown_type : Refused (changed 29 30 one_file) bad_footer
unfolding footer_of read_struct page_triplets hybrid
unknown_type = known_cause_holds (changed 29 30 one_file) one_schema one_leaf bad_footer refl

-- a name past the end
pub name_past_end : Refused (changed 34 127 one_file) bad_footer
unfolding footer_of read_struct page_triplets hybrid
name_past_end = known_cause_holds (changed 34 127 one_file) one_schema one_leaf bad_footer refl

-- a root of two children, of which one is there
pub children_missing : Refused (changed 37 4 one_file) bad_footer
unfolding footer_of read_struct page_triplets hybrid
children_missing = known_cause_holds (changed 37 4 one_file) one_schema one_leaf bad_footer refl

-- a root of a negative number of children
pub children_negative : Refused (changed 37 1 one_file) bad_footer
unfolding footer_of read_struct page_triplets hybrid
children_negative = known_cause_holds (changed 37 1 one_file) one_schema one_leaf bad_footer refl

-- the repetition 3
pub unknown_repetition : Refused (changed 42 6 one_file) bad_footer
unfolding footer_of read_struct page_triplets hybrid
unknown_repetition = known_cause_holds (changed 42 6 one_file) one_schema one_leaf bad_footer refl

-- a negative number of rows
pub rows_negative : Refused (changed 48 1 one_file) bad_footer
unfolding footer_of read_struct page_triplets hybrid
rows_negative = known_cause_holds (changed 48 1 one_file) one_schema one_leaf bad_footer refl

-- a negative offset
pub offset_negative : Refused (changed 75 1 one_file) bad_footer
unfolding footer_of read_struct page_triplets hybrid
offset_negative = known_cause_holds (changed 75 1 one_file) one_schema one_leaf bad_footer refl

-- a field that isn't known, of 32 structs in one another
pub nested_32 : Refused (nested 32) bad_footer
unfolding footer_of read_struct page_triplets hybrid
nested_32 = known_cause_holds (nested 32) one_schema one_leaf bad_footer refl

-- ---- not the schema

-- the type DOUBLE
pub double_type : Refused (changed 40 10 one_file) bad_schema
unfolding footer_of read_struct page_triplets hybrid
double_type = known_cause_holds (changed 40 10 one_file) one_schema one_leaf bad_schema refl

-- the type INT32
pub int32_type : Refused (changed 40 2 one_file) bad_schema
unfolding footer_of read_struct page_triplets hybrid
int32_type = known_cause_holds (changed 40 2 one_file) one_schema one_leaf bad_schema refl

-- an optional leaf
pub optional_leaf : Refused (changed 42 2 one_file) bad_schema
unfolding footer_of read_struct page_triplets hybrid
optional_leaf = known_cause_holds (changed 42 2 one_file) one_schema one_leaf bad_schema refl

-- another name
pub other_name : Refused (changed 45 98 one_file) bad_schema
unfolding footer_of read_struct page_triplets hybrid
other_name = known_cause_holds (changed 45 98 one_file) one_schema one_leaf bad_schema refl

-- ---- another codec

-- the codec 1
pub other_codec : Refused (changed 67 2 one_file) bad_codec
unfolding footer_of read_struct page_triplets hybrid
other_codec = known_cause_holds (changed 67 2 one_file) one_schema one_leaf bad_codec refl

-- the codec 1, and rows that disagree
pub other_codec_and_rows : Refused (changed 48 4 (changed 67 2 one_file)) bad_codec
unfolding footer_of read_struct page_triplets hybrid
other_codec_and_rows = known_cause_holds (changed 48 4 (changed 67 2 one_file)) one_schema one_leaf bad_codec refl

-- ---- no records

-- two rows of the file, one of its row group
pub file_rows_disagree : Refused (changed 48 4 one_file) bad_data
unfolding footer_of read_struct page_triplets hybrid
file_rows_disagree = known_cause_holds (changed 48 4 one_file) one_schema one_leaf bad_data refl

-- one row of the file, two of its row group
pub group_rows_disagree : Refused (changed 81 4 one_file) bad_data
unfolding footer_of read_struct page_triplets hybrid
group_rows_disagree = known_cause_holds (changed 81 4 one_file) one_schema one_leaf bad_data refl

-- no values in a chunk of one row
pub no_values : Refused (changed 69 0 one_file) bad_data
unfolding footer_of read_struct page_triplets hybrid
no_values = known_cause_holds (changed 69 0 one_file) one_schema one_leaf bad_data refl

-- two values in a chunk of one page of one
pub two_values : Refused (changed 69 4 one_file) bad_data
unfolding footer_of read_struct page_triplets hybrid
two_values = known_cause_holds (changed 69 4 one_file) one_schema one_leaf bad_data refl

-- a chunk that is a byte too short
pub chunk_too_short : Refused (changed 73 48 one_file) bad_data
unfolding footer_of read_struct page_triplets hybrid
chunk_too_short = known_cause_holds (changed 73 48 one_file) one_schema one_leaf bad_data refl

-- a chunk that reaches into the footer
pub chunk_into_footer : Refused (changed 73 126 one_file) bad_data
unfolding footer_of read_struct page_triplets hybrid
chunk_into_footer = known_cause_holds (changed 73 126 one_file) one_schema one_leaf bad_data refl

-- a chunk that begins at the magic
pub chunk_at_magic : Refused (changed 75 0 one_file) bad_data
unfolding footer_of read_struct page_triplets hybrid
chunk_at_magic = known_cause_holds (changed 75 0 one_file) one_schema one_leaf bad_data refl

-- an index page, and then nothing
pub index_page_alone : Refused (changed 5 2 one_file) bad_data
unfolding footer_of read_struct page_triplets hybrid
index_page_alone = known_cause_holds (changed 5 2 one_file) one_schema one_leaf bad_data refl

-- the page type 5
pub unknown_page : Refused (changed 5 10 one_file) bad_data
unfolding footer_of read_struct page_triplets hybrid
unknown_page = known_cause_holds (changed 5 10 one_file) one_schema one_leaf bad_data refl

-- a page body of seven bytes
pub body_too_short : Refused (changed 9 14 one_file) bad_data
unfolding footer_of read_struct page_triplets hybrid
body_too_short = known_cause_holds (changed 9 14 one_file) one_schema one_leaf bad_data refl

-- a page of two values where one is wanted
pub page_goes_past : Refused (changed 12 4 one_file) bad_data
unfolding footer_of read_struct page_triplets hybrid
page_goes_past = known_cause_holds (changed 12 4 one_file) one_schema one_leaf bad_data refl

-- values of the encoding 3
pub other_encoding : Refused (changed 14 6 one_file) bad_data
unfolding footer_of read_struct page_triplets hybrid
other_encoding = known_cause_holds (changed 14 6 one_file) one_schema one_leaf bad_data refl
