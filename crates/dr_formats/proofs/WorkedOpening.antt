-- Causes at opening and of one leaf, ranges, loading and the lines of commands, by computation.
use Rattle.std.specs.Prelude.{◌≡◌, ℕ, List, [], ◌∷◌, ◌++◌, map, take, replicate, true, false, pos, Some, None, codes, refl}
use Rattle.std.specs.Str.{is_utf8, chars}
use Rattle.std.specs.Fmt.{digits}
use Rattle.dr_meaning.specs.Schema.{Schema, no_fields, field, leaf, group, required, optional, repeated, int64_kind}
use Rattle.dr_meaning.specs.SchemaText.{empty_group}
use Rattle.dr_meaning.specs.Path.{Leaf, leaves}
use Rattle.dr_meaning.specs.Record.{Node, no_slots, slot, single, atom, int_value}
use Rattle.dr_meaning.specs.JsonRecord.{record_of_line, missing_field, not_json}
use Rattle.dr_meaning.specs.Lines.{Refusal, no_record}
use Rattle.dr_formats.specs.Compact.{read_struct}
use Rattle.dr_formats.specs.Hybrid.{hybrid}
use Rattle.dr_formats.specs.Page.{page_triplets}
use Rattle.dr_formats.specs.File.{Footer, rows_agree, values_fit, bad_footer, bad_schema, bad_codec, bad_data, footer_of, known_cause}
use Rattle.dr_formats.specs.Opening.{opening_cause, leaf_cause, range, reader_ranges, is_inside, is_in_file}
use Rattle.dr_formats.specs.Page.{data_page_v1, data_page_v2}
use Rattle.dr_formats.specs.Writing.{file_bytes}
use Rattle.dr_formats.specs.TableFile.{table_text, table_too_long, bad_head, bad_tablets, bad_copies, bad_leaf, bad_table_schema}
use Rattle.dr_formats.specs.Loading.{Put, Plan, puts_of, load_taken, load, words_refusal, leaf_refused, copies_refused, most_loaded, most_tablet_rows}
use Rattle.dr_formats.specs.Reports.{loaded_text, table_refusal_text, words_refusal_text, read_failed, bad_file, left_tablet_text, left_file_text}
use Rattle.dr_formats.proofs.Hexadecimal.{hex}
use Rattle.dr_formats.proofs.WorkedFiles.{one_schema, one_file}
use Rattle.dr_formats.proofs.WorkedDamaged.{footer_or, changed}

-- ---- causes

-- the leaf g.n of `message T { optional group g { repeated int64 n; } }`
abbrev list_schema : Schema
list_schema = record { name = codes "T"; fields = field (codes "g") optional (group (field (codes "n") repeated (leaf int64_kind) no_fields)) no_fields }

abbrev list_leaf : Leaf
list_leaf = record { names = codes "g" ∷ codes "n" ∷ []; path = record { place = 0; repetition = optional } ∷ record { place = 0; repetition = repeated } ∷ []; kind = int64_kind }

pub leaf_of_schema : leaves list_schema.fields ≡ list_leaf ∷ []
leaf_of_schema = refl

-- an empty list, and a list of 5 and 6
abbrev two_lists : List ℕ
two_lists =
    hex (codes "504152311500153A153A2C150615001506150600000200000003040300000003290005000000000000000600000000000000293C48015415020035021801671502") ++
    hex (codes "001504250418016E001604191C191C3C150435001606265C26080000260400002F00000050415231")

-- an empty list, and then one more value in it
abbrev no_lists : List ℕ
no_lists =
    hex (codes "504152311500152A152A2C15041500150615060000020000000302030000000309000500000000000000293C48015415020035021801671502001504250418016E") ++
    hex (codes "001602191C191C3C150435001604264C26080000260200002F00000050415231")

-- the footer and each chunk are as they should be; that no records have the triplets is seen by the test of the leaf
pub lists : (leaf_cause two_lists list_leaf ≡ None) × (opening_cause no_lists (list_leaf ∷ []) ≡ None) × (known_cause no_lists (list_leaf ∷ []) ≡ None) × (leaf_cause no_lists list_leaf ≡ Some bad_data)
unfolding footer_of read_struct page_triplets hybrid
lists = (refl, refl, refl, refl)

abbrev a : Leaf
a = record { names = codes "a" ∷ []; path = record { place = 0; repetition = required } ∷ []; kind = int64_kind }

-- each cause, by the worked file of one record with a byte changed: a cause of the footer alone is seen at opening, others with the leaf
pub one_leaf_causes : (map (λ bytes. leaf_cause bytes a) (one_file ∷ [] ∷ changed 40 10 one_file ∷ changed 67 2 one_file ∷ changed 48 4 one_file ∷ changed 12 4 one_file ∷ []) ≡ None ∷ Some bad_footer ∷ Some bad_schema ∷ Some bad_codec ∷ Some bad_data ∷ Some bad_data ∷ [])
    × (map (λ bytes. opening_cause bytes (a ∷ [])) (one_file ∷ [] ∷ changed 40 10 one_file ∷ changed 67 2 one_file ∷ changed 48 4 one_file ∷ changed 12 4 one_file ∷ []) ≡ None ∷ Some bad_footer ∷ Some bad_schema ∷ Some bad_codec ∷ Some bad_data ∷ None ∷ [])
    × (map (λ bytes. opening_cause bytes []) (one_file ∷ [] ∷ changed 40 10 one_file ∷ changed 67 2 one_file ∷ changed 48 4 one_file ∷ []) ≡ None ∷ Some bad_footer ∷ None ∷ None ∷ Some bad_data ∷ [])
unfolding footer_of read_struct page_triplets hybrid
one_leaf_causes = (refl, refl, refl)

-- the greatest numbers of rows and of triplets of a leaf, and one more: the worked footer with other numbers
abbrev with_numbers : ℕ → ℕ → ℕ → Footer
with_numbers rows group_rows values = record (footer_or (footer_of one_file)) {
  meta = record {
    version = None;
    schema = [];
    rows = rows;
    groups = record {
      columns = record {
        file_path = None;
        file_offset = None;
        meta = record { type = pos 2; encodings = None; path = None; codec = pos 0; values = values; uncompressed_size = None; compressed_size = 0; data_page_offset = 4; dictionary_page_offset = None };
      } ∷ [];
      total_byte_size = None;
      rows = group_rows;
    } ∷ [];
    created_by = None;
  };
}

pub greatest_numbers : (rows_agree (with_numbers 1000000000 1000000000 0) ≡ true) × (rows_agree (with_numbers 1000000001 1000000001 0) ≡ false) × (rows_agree (with_numbers 5 6 0) ≡ false)
    × (values_fit (with_numbers 1 1 1099511627776) (a ∷ []) ≡ true) × (values_fit (with_numbers 1 1 1099511627777) (a ∷ []) ≡ false) × (values_fit (with_numbers 1 1 1099511627777) [] ≡ true)
unfolding footer_of read_struct
greatest_numbers = (refl, refl, refl, refl, refl, refl)

-- ---- ranges

-- the worked file of 109 bytes: both ends, the footer of 72 bytes at 29, the chunk of 25 at 4, where its leaf is asked for
pub ranges : (reader_ranges one_file (a ∷ []) ≡ range 0 4 ∷ range 101 8 ∷ range 29 72 ∷ range 4 25 ∷ []) × (reader_ranges one_file [] ≡ range 0 4 ∷ range 101 8 ∷ range 29 72 ∷ [])
unfolding footer_of read_struct
ranges = (refl, refl)

-- of a byte less than a frame nothing; of a frame without a footer both ends and the footer's place; no chunk that reaches into the footer or the magic
pub other_ranges : (reader_ranges (take 11 one_file) (a ∷ []) ≡ []) × (reader_ranges (hex (codes "50415231 00000000 50415231")) (a ∷ []) ≡ range 0 4 ∷ range 4 8 ∷ range 4 0 ∷ [])
    × (map (λ bytes. reader_ranges bytes (a ∷ [])) (changed 73 52 one_file ∷ changed 73 126 one_file ∷ changed 75 6 one_file ∷ []) ≡ replicate 3 (range 0 4 ∷ range 101 8 ∷ range 29 72 ∷ []))
unfolding footer_of read_struct
other_ranges = (refl, refl, refl)

-- a range may end where the file does
pub in_file : map (is_in_file one_file) (range 101 8 ∷ range 109 0 ∷ range 101 9 ∷ range 110 0 ∷ []) ≡ true ∷ true ∷ false ∷ false ∷ []
in_file = refl

-- a part of a range, the range itself; a byte before it, a byte behind it
pub inside : map (λ r. is_inside r (range 4 25)) (range 5 3 ∷ range 4 25 ∷ range 29 0 ∷ range 3 2 ∷ range 4 26 ∷ range 28 2 ∷ []) ≡ true ∷ true ∷ true ∷ false ∷ false ∷ false ∷ []
inside = refl

-- ---- load

abbrev plan : ℕ → Plan
plan rows = record { schema = one_schema; directories = codes "x" ∷ codes "y" ∷ []; copies = 2; rows = rows; table = Some (codes "T"); form = data_page_v1 }

abbrev number : ℕ → Node
number n = slot (single (atom (int_value (pos n)))) no_slots

abbrev file : List ℕ → List ℕ
file ns = file_bytes data_page_v1 one_schema (map number ns)

abbrev file_v2 : List ℕ → List ℕ
file_v2 ns = file_bytes data_page_v2 one_schema (map number ns)

abbrev put : List ℕ → List ℕ → Put
put path bytes = record { path = path; bytes = bytes }

-- three records, two to a tablet: each tablet on its leaves in order, the table last
pub three_records : puts_of (plan 2) (map number (1 ∷ 2 ∷ 3 ∷ [])) None ≡
    put (codes "x/t000000.parquet") (file (1 ∷ 2 ∷ [])) ∷ put (codes "y/t000000.parquet") (file (1 ∷ 2 ∷ [])) ∷ put (codes "y/t000001.parquet") (file (3 ∷ [])) ∷ put (codes "x/t000001.parquet") (file (3 ∷ []))
    ∷ put (codes "T") (table_text (record { schema = one_schema; leaves = codes "x" ∷ codes "y" ∷ []; copies = 2; tablets = 2 })) ∷ []
unfolding digits
three_records = refl

-- copies and tablets in the table file, each in its place; pages of the other form
pub two_of_one : puts_of (record { schema = one_schema; directories = codes "x" ∷ codes "y" ∷ []; copies = 1; rows = 1; table = Some (codes "T"); form = data_page_v2 }) (map number (1 ∷ 2 ∷ [])) None ≡
    put (codes "x/t000000.parquet") (file_v2 (1 ∷ [])) ∷ put (codes "y/t000001.parquet") (file_v2 (2 ∷ [])) ∷ put (codes "T") (table_text (record { schema = one_schema; leaves = codes "x" ∷ codes "y" ∷ []; copies = 1; tablets = 2 })) ∷ []
unfolding digits
two_of_one = refl

-- no records: one tablet without rows, and the table; where none is asked for, no table
pub no_records : (puts_of (record { schema = one_schema; directories = codes "x" ∷ []; copies = 1; rows = 5; table = None; form = data_page_v1 }) [] None ≡ put (codes "x/t000000.parquet") (file []) ∷ [])
unfolding digits
no_records = refl

abbrev refusal : Refusal
refusal = record { line = 4; fault = no_record missing_field }

abbrev paths : List Put → List (List ℕ)
paths ps = map (λ (p : Put). p.path) ps

-- a refused line: the tablets that were full before it, also the last of them; neither the one that was being filled nor the table
pub refused_lines : (paths (puts_of (plan 2) (map number (1 ∷ 2 ∷ 3 ∷ [])) (Some refusal)) ≡ codes "x/t000000.parquet" ∷ codes "y/t000000.parquet" ∷ []) × (paths (puts_of (plan 3) (map number (1 ∷ 2 ∷ 3 ∷ [])) (Some refusal)) ≡ codes "x/t000000.parquet" ∷ codes "y/t000000.parquet" ∷ [])
    × (puts_of (plan 4) (map number (1 ∷ 2 ∷ 3 ∷ [])) (Some refusal) ≡ []) × (puts_of (plan 4) [] (Some refusal) ≡ [])
unfolding digits
refused_lines = (refl, refl, refl, refl)

-- a load whose first line is refused puts nothing
pub first_line_is_refused : load_taken (plan 1) (record { records = []; refusal = Some refusal }) ≡ record { puts = []; records = 0; tablets = 1; refusal = Some refusal }
first_line_is_refused = refl

-- an empty input: no record in one tablet
pub loads : load (plan 1) [] ≡ record { puts = puts_of (plan 1) [] None; records = 0; tablets = 1; refusal = None }
unfolding load
loads = refl

-- lines are counted from 1: here the first isn't UTF-8, and so no record
pub first_line_is_told : load (plan 1) (255 ∷ 10 ∷ []) ≡ record { puts = []; records = 0; tablets = 1; refusal = Some (record { line = 1; fault = no_record not_json }) }
unfolding load record_of_line is_utf8 chars
first_line_is_told = refl

pub load_limits : (most_loaded 1 ≡ 4096) × (most_loaded 1000000 ≡ 4096000000) × (most_tablet_rows ≡ 1000000)
load_limits = (refl, refl, refl)

-- an empty directory and one with an LF, the first of them; the directories before the copies
pub words : (words_refusal (codes "a" ∷ codes "b" ∷ []) 2 ≡ None) × (words_refusal (codes "a" ∷ codes "b" ∷ []) 3 ≡ Some copies_refused) × (words_refusal (codes "a" ∷ [] ∷ codes "x\ny" ∷ []) 4 ≡ Some (leaf_refused 1)) × (words_refusal (codes "\n" ∷ []) 1 ≡ Some (leaf_refused 0))
words = (refl, refl, refl, refl)

-- ---- lines of commands

pub table_lines : map table_refusal_text (table_too_long ∷ bad_head ∷ bad_tablets ∷ bad_copies ∷ bad_leaf 3 ∷ bad_table_schema (record { place = 12; problem = empty_group }) ∷ []) ≡
    codes "refused table: TooLong\n" ∷ codes "refused table: Head\n" ∷ codes "refused table: Tablets\n" ∷ codes "refused table: Copies\n" ∷ codes "refused table: Leaf 3\n" ∷ codes "refused table: schema at 12: EmptyGroup\n" ∷ []
unfolding digits
table_lines = refl

pub other_lines : (words_refusal_text (leaf_refused 1) ≡ codes "refused leaf 1\n") × (words_refusal_text copies_refused ≡ codes "refused copies\n") × (loaded_text 2 1 ≡ codes "loaded 2 records into 1 tablets\n")
    × (left_tablet_text 12 (record { leaf = 0; cause = read_failed } ∷ record { leaf = 3; cause = bad_file bad_data } ∷ []) ≡ codes "left t000012: 0 read; 3 data\n") × (left_tablet_text 0 (record { leaf = 10; cause = bad_file bad_footer } ∷ []) ≡ codes "left t000000: 10 footer\n")
    × (left_file_text (bad_file bad_schema) ≡ codes "left file: schema\n") × (left_file_text (bad_file bad_codec) ≡ codes "left file: codec\n")
unfolding digits
other_lines = (refl, refl, refl, refl, refl, refl, refl)
