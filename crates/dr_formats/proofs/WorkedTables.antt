-- Table files and tablets, by computation.
use Rattle.std.specs.Prelude.{◌≡◌, ℕ, List, [], ◌∷◌, ◌++◌, map, length, replicate, Option, Some, None, Result, Ok, Err, codes, refl}
use Rattle.std.specs.Fmt.{digits}
use Rattle.std.specs.Str.{is_utf8, chars}
use Rattle.dr_meaning.specs.SchemaText.{parse_schema, schema_text, empty_group, syntax}
use Rattle.dr_meaning.proofs.WorkedSchemas.{document_schema, document_text}
use Rattle.dr_formats.specs.TableFile.{Table, TableFault, table_too_long, longest_table, most_tablets, most_leaf_lines, bad_head, bad_tablets, bad_copies, bad_leaf, bad_table_schema, parse_table, table_text}
use Rattle.dr_formats.specs.TableLaws.{SpellsTable}
use Rattle.dr_formats.specs.Tablets.{tablets, placement, tablet_path, copy_paths}

abbrev pub two_copies : Table
two_copies = record { schema = document_schema; leaves = codes "a" ∷ codes "b" ∷ []; copies = 2; tablets = 2 }

abbrev pub line : List ℕ → List ℕ → List ℕ
line t behind = t ++ 10 ∷ behind

-- two tablets and two copies
abbrev pub two_copies_text : List ℕ
two_copies_text = line (codes "dremel-table 1") (line (codes "tablets 2") (line (codes "copies 2") (line (codes "leaf a") (line (codes "leaf b") (line (codes "schema") (line document_text []))))))

pub two_copies_prints : table_text two_copies ≡ two_copies_text
unfolding table_text schema_text digits
two_copies_prints = refl

pub two_copies_reads : parse_table two_copies_text ≡ Ok two_copies
unfolding parse_table parse_schema is_utf8 chars lib.Utf8.encode
two_copies_reads = refl

-- the lines, then any text of the schema
pub spells : SpellsTable two_copies two_copies_text
unfolding parse_schema digits
spells = (line document_text [], refl, refl)

-- another first line
pub other_head : parse_table (line (codes "dremel-table 2") (line (codes "tablets 2") [])) ≡ Err bad_head
unfolding parse_table is_utf8 chars lib.Utf8.encode
other_head = refl

-- the end of a line is part of it
pub head_alone : parse_table (codes "dremel-table 1") ≡ Err bad_head
unfolding parse_table is_utf8 chars lib.Utf8.encode
head_alone = refl

pub no_tablets : parse_table (line (codes "dremel-table 1") (line (codes "tablets 0") [])) ≡ Err bad_tablets
unfolding parse_table is_utf8 chars lib.Utf8.encode
no_tablets = refl

-- a number with a leading zero
pub zero_before : parse_table (line (codes "dremel-table 1") (line (codes "tablets 02") [])) ≡ Err bad_tablets
unfolding parse_table is_utf8 chars lib.Utf8.encode
zero_before = refl

pub too_many_copies : parse_table (line (codes "dremel-table 1") (line (codes "tablets 2") (line (codes "copies 65") []))) ≡ Err bad_copies
unfolding parse_table is_utf8 chars lib.Utf8.encode
too_many_copies = refl

-- more copies than leaves; that is told behind the leaf lines
pub more_copies_than_leaves : parse_table (line (codes "dremel-table 1") (line (codes "tablets 2") (line (codes "copies 2") (line (codes "leaf a") (line (codes "schema") []))))) ≡ Err bad_copies
unfolding parse_table is_utf8 chars lib.Utf8.encode
more_copies_than_leaves = refl

pub no_leaf : parse_table (line (codes "dremel-table 1") (line (codes "tablets 2") (line (codes "copies 2") (line (codes "schema") [])))) ≡ Err (bad_leaf 0)
unfolding parse_table is_utf8 chars lib.Utf8.encode
no_leaf = refl

-- a leaf without a directory
pub empty_leaf : parse_table (line (codes "dremel-table 1") (line (codes "tablets 2") (line (codes "copies 2") (line (codes "leaf a") (line (codes "leaf ") []))))) ≡ Err (bad_leaf 1)
unfolding parse_table is_utf8 chars lib.Utf8.encode
empty_leaf = refl

-- a fault of the schema text, by its place in that text
pub no_schema : parse_table (line (codes "dremel-table 1") (line (codes "tablets 2") (line (codes "copies 1") (line (codes "leaf a") (line (codes "schema") (codes "message T { }")))))) ≡ Err (bad_table_schema (record { place = 12; problem = empty_group }))
unfolding parse_table parse_schema is_utf8 chars lib.Utf8.encode
no_schema = refl

-- ---- each fault

-- the lines before the schema text, and a schema text
abbrev head : List ℕ → List ℕ → List (List ℕ) → List ℕ
head tablet_line copies_line leaf_lines = line (codes "dremel-table 1") (line tablet_line (line copies_line (leaves_then leaf_lines (line (codes "schema") (codes "message T { required int64 a; }")))))
  where
    leaves_then : List (List ℕ) → List ℕ → List ℕ
    leaves_then [] behind = behind
    leaves_then (l ∷ ls) behind = line l (leaves_then ls behind)

abbrev one : List (List ℕ)
one = codes "leaf a" ∷ []

-- the fault, and none of a table that is accepted
abbrev faults : List (List ℕ) → List (Option TableFault)
faults texts = map (λ t. fault (parse_table t)) texts
  where
    fault : Result Table TableFault → Option TableFault
    fault (Ok t) = None
    fault (Err e) = Some e

-- 1 to 4,096 tablets, in decimal without leading zeros, and nothing else on the line
pub tablet_lines : faults (map (λ t. head t (codes "copies 1") one) (codes "tablets 1" ∷ codes "tablets 4096" ∷ codes "tablets 4097" ∷ codes "tablets 0" ∷ codes "tablets 01" ∷ codes "tablets " ∷ codes "tablets 1 " ∷ codes "tablets  1" ∷ codes "tablets +1" ∷ codes "tablets 1x" ∷ codes "Tablets 1" ∷ codes "copies 1" ∷ []))
    ≡ None ∷ None ∷ Some bad_tablets ∷ Some bad_tablets ∷ Some bad_tablets ∷ Some bad_tablets ∷ Some bad_tablets ∷ Some bad_tablets ∷ Some bad_tablets ∷ Some bad_tablets ∷ Some bad_tablets ∷ Some bad_tablets ∷ []
unfolding parse_table parse_schema is_utf8 chars lib.Utf8.encode
tablet_lines = refl

-- 1 to 64 copies, and at most as many as there are leaf lines, which is told behind these
pub copies_lines : faults (head (codes "tablets 1") (codes "copies 64") (replicate 64 (codes "leaf a")) ∷ head (codes "tablets 1") (codes "copies 65") (replicate 65 (codes "leaf a")) ∷ head (codes "tablets 1") (codes "copies 0") one ∷ head (codes "tablets 1") (codes "copies 2") one
    ∷ head (codes "tablets 1") (codes "copies 2") (codes "leaf a" ∷ codes "leaf" ∷ []) ∷ head (codes "tablets 1") (codes "leaf a") one ∷ [])
    ≡ None ∷ Some bad_copies ∷ Some bad_copies ∷ Some bad_copies ∷ Some (bad_leaf 1) ∷ Some bad_copies ∷ []
unfolding parse_table parse_schema is_utf8 chars lib.Utf8.encode
copies_lines = refl

-- 1 to 64 leaf lines; the 65th stands in the place of the line `schema`; a directory may have blanks, and may be `schema`
pub leaf_line_numbers : faults (map (head (codes "tablets 1") (codes "copies 1")) (replicate 64 (codes "leaf a") ∷ replicate 65 (codes "leaf a") ∷ [] ∷ (codes "leaf a" ∷ codes "leaf " ∷ []) ∷ (codes "leaf a" ∷ codes "leaf" ∷ []) ∷ (codes "leaf  a b" ∷ codes "leaf schema" ∷ []) ∷ (codes "Leaf a" ∷ []) ∷ []))
    ≡ None ∷ Some (bad_leaf 64) ∷ Some (bad_leaf 0) ∷ Some (bad_leaf 1) ∷ Some (bad_leaf 1) ∷ None ∷ Some (bad_leaf 0) ∷ []
unfolding parse_table parse_schema is_utf8 chars lib.Utf8.encode
leaf_line_numbers = refl

-- lines that aren't ended, or aren't there
pub cut_tables : faults ([] ∷ codes "dremel-table 1" ∷ line (codes "dremel-table 1") [] ∷ line (codes "dremel-table 1") (codes "tablets 1") ∷ line (codes "dremel-table 1") (line (codes "tablets 1") []) ∷ line (codes "dremel-table 1") (line (codes "tablets 1") (codes "copies 1"))
    ∷ line (codes "dremel-table 1") (line (codes "tablets 1") (line (codes "copies 1") [])) ∷ line (codes "dremel-table 1") (line (codes "tablets 1") (line (codes "copies 1") (codes "leaf a"))) ∷ line (codes "dremel-table 1") (line (codes "tablets 1") (line (codes "copies 1") (line (codes "leaf a") [])))
    ∷ line (codes "dremel-table 1") (line (codes "tablets 1") (line (codes "copies 1") (line (codes "leaf a") (codes "schema")))) ∷ line (codes "dremel-table 1") (line (codes "tablets 1") (line (codes "copies 1") (line (codes "leaf a") (line (codes "schema") [])))) ∷ [])
    ≡ Some bad_head ∷ Some bad_head ∷ Some bad_tablets ∷ Some bad_tablets ∷ Some bad_copies ∷ Some bad_copies ∷ Some (bad_leaf 0) ∷ Some (bad_leaf 0) ∷ Some (bad_leaf 1) ∷ Some (bad_leaf 1) ∷ Some (bad_table_schema (record { place = 0; problem = syntax })) ∷ []
unfolding parse_table parse_schema is_utf8 chars lib.Utf8.encode
cut_tables = refl

-- bytes that aren't UTF-8 are the head's fault, wherever they stand; a CR is part of its line
pub other_heads : faults (line (codes "dremel-table 1") (255 ∷ []) ∷ line (codes "dremel-table 1\r") [] ∷ line (codes " dremel-table 1") [] ∷ []) ≡ Some bad_head ∷ Some bad_head ∷ Some bad_head ∷ []
unfolding parse_table is_utf8 chars lib.Utf8.encode
other_heads = refl

-- more than 2,097,152 bytes come before any other fault
pub too_long_first : (text : List ℕ) → length text ≡ 2097153 → parse_table text ≡ Err table_too_long
unfolding parse_table
too_long_first text e = rw e refl

pub table_limits : (longest_table ≡ 2097152) × (most_tablets ≡ 4096) × (most_leaf_lines ≡ 64)
table_limits = (refl, refl, refl)

-- ---- tablets

pub no_records : tablets {A = ℕ} 1 [] ≡ [] ∷ []
no_records = refl

pub full_tablets : tablets {A = ℕ} 1 (7 ∷ 8 ∷ []) ≡ (7 ∷ []) ∷ (8 ∷ []) ∷ []
full_tablets = refl

pub last_tablet_smaller : tablets {A = ℕ} 2 (7 ∷ 8 ∷ 9 ∷ []) ≡ (7 ∷ 8 ∷ []) ∷ (9 ∷ []) ∷ []
last_tablet_smaller = refl

-- where the copies of two tablets lie on two leaves
pub first_copies : copy_paths (codes "a" ∷ codes "b" ∷ []) 2 0 ≡ codes "a/t000000.parquet" ∷ codes "b/t000000.parquet" ∷ []
unfolding digits
first_copies = refl

pub second_copies : copy_paths (codes "a" ∷ codes "b" ∷ []) 2 1 ≡ codes "b/t000001.parquet" ∷ codes "a/t000001.parquet" ∷ []
unfolding digits
second_copies = refl

-- copies go on to the next leaf, and from the last to the first
pub placements : map (placement 3 5) (0 ∷ 1 ∷ 2 ∷ 3 ∷ []) ≡ 2 ∷ 0 ∷ 1 ∷ 2 ∷ []
placements = refl

pub three_copies : copy_paths (codes "a" ∷ codes "b" ∷ codes "c" ∷ []) 2 5 ≡ codes "c/t000005.parquet" ∷ codes "a/t000005.parquet" ∷ []
unfolding digits
three_copies = refl

-- six digits, or all of a longer number
pub numbers : map (tablet_path (codes "d")) (0 ∷ 42 ∷ 4095 ∷ 999999 ∷ 1234567 ∷ []) ≡ codes "d/t000000.parquet" ∷ codes "d/t000042.parquet" ∷ codes "d/t004095.parquet" ∷ codes "d/t999999.parquet" ∷ codes "d/t1234567.parquet" ∷ []
unfolding digits
numbers = refl

-- three to a tablet: the last is full, or it isn't
pub three_to_a_tablet : (tablets {A = ℕ} 3 (1 ∷ 2 ∷ 3 ∷ []) ≡ (1 ∷ 2 ∷ 3 ∷ []) ∷ []) × (tablets {A = ℕ} 3 (1 ∷ 2 ∷ 3 ∷ 4 ∷ []) ≡ (1 ∷ 2 ∷ 3 ∷ []) ∷ (4 ∷ []) ∷ []) × (tablets {A = ℕ} 3 (1 ∷ 2 ∷ []) ≡ (1 ∷ 2 ∷ []) ∷ [])
three_to_a_tablet = (refl, refl, refl)
