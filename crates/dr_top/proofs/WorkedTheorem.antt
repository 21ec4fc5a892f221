-- The premises of the theorem, by example: a table of two tablets of a record each, with two copies each, of which one is broken, that two links serve.
use Rattle.std.specs.Prelude.{◌≡◌, List, [], ◌∷◌, ℕ, bytes_eq, if◌then◌else◌, pos, Some, None, Ok, codes, refl}
use Rattle.std.specs.Fmt.{digits}
use Rattle.std.specs.Str.{is_utf8, chars}
use Rattle.std.proofs.Common.{inl, inr, sym, ◌∙◌, subst}
use Rattle.dr_meaning.specs.SchemaText.{parse_schema}
use Rattle.dr_meaning.specs.Path.{Leaf}
use Rattle.dr_meaning.specs.Record.{Node, int_value}
use Rattle.dr_meaning.specs.Expression.{path_value}
use Rattle.dr_meaning.specs.Query as plain
use Rattle.dr_meaning.specs.Query.{sum, count_rows, aggregate, groups, cell, no_entries}
use Rattle.dr_meaning.specs.QueryLeaves as plain_leaves
use Rattle.dr_meaning.specs.Parse.{items as plain_items, keys, argument, whole_expression}
use Rattle.dr_meaning.specs.Binding.{bind}
use Rattle.dr_meaning.specs.Print.{result_text}
use Rattle.dr_sub_meaning.specs.Nested.{NestedQuery, answered, meaning, outer_fields, outer_records, query_leaves}
use Rattle.dr_sub_meaning.specs.NestedParse.{parse_nested}
use Rattle.dr_sub_meaning.specs.NestedBinding.{bind_nested}
use Rattle.dr_sub_meaning.specs.NestedAsk.{read_nested, nested_answer_text}
use Rattle.dr_formats.specs.TableFile.{Table, parse_table}
use Rattle.dr_formats.specs.File.{IsFileOf}
use Rattle.dr_formats.proofs.WorkedFiles.{one_schema, one_record, one_file}
use Rattle.dr_outside.specs.Link.{Files}
use Rattle.dr_reading.specs.Scan.{Copy, tablets_of, joined}
use Rattle.dr_reading.specs.Premises.{TabletsHold}
use Rattle.dr_reading.proofs.WorkedCauses.{path_of_a, the_leaf, no_footer, one_is_file}
use Rattle.dr_reading.specs.ServingPremises.{AllTell}
use Rattle.dr_serve.specs.Counted.{AreCounted, no_more, is_counted}
use Rattle.dr_commands.specs.Query.{query_scan}
use Rattle.dr_words.proofs.WorkedWords.{totals_text, two_workers_line, two_workers_words, two_workers_asked}
use Rattle.dr_top.specs.Theorem.{AreHeld, AsksTable, answer_of}
use Rattle.dr_top.proofs.ServedTextLemmas.{served_prints_meaning}

-- ---- the table

abbrev table : Table
table = record { schema = one_schema; leaves = codes "x" ∷ codes "y" ∷ []; copies = 2; tablets = 2 }

abbrev table_bytes : List ℕ
table_bytes = codes "dremel-table 1\ntablets 2\ncopies 2\nleaf x\nleaf y\nschema\nmessage T { required int64 a; }"

pub table_reads : parse_table table_bytes ≡ Ok table
unfolding parse_table parse_schema is_utf8 chars lib.Utf8.encode
table_reads = refl

-- the table file is the only one there
abbrev tables : Files
tables path = if bytes_eq path (codes "t") then Some table_bytes else None

-- ---- the copies

abbrev copy : ℕ → List ℕ → Copy
copy directory path = record { directory = directory; path = path }

abbrev copies : List (List Copy)
copies = (copy 0 (codes "x/t000000.parquet") ∷ copy 1 (codes "y/t000000.parquet") ∷ []) ∷ (copy 1 (codes "y/t000001.parquet") ∷ copy 0 (codes "x/t000001.parquet") ∷ []) ∷ []

pub copies_are : tablets_of table ≡ copies
unfolding digits
copies_are = refl

-- the first copy has no byte, the other three are files of the one record
abbrev files : Files
files path =
    if bytes_eq path (codes "x/t000000.parquet") then Some []
    else (if bytes_eq path (codes "y/t000000.parquet") then Some one_file
    else (if bytes_eq path (codes "y/t000001.parquet") then Some one_file
    else (if bytes_eq path (codes "x/t000001.parquet") then Some one_file else None)))

abbrev one : List Node
one = one_record ∷ []

no_file : (F : List Leaf) (S : List Node) → IsFileOf [] one_schema F S → ⊥
no_file F S h = let e = sym no_footer ∙ h.1 in cc

-- ---- the query

-- SELECT COUNT(*) AS n, SUM(a) AS s FROM T
abbrev totals : NestedQuery
totals = record {
  inner = [];
  outer = record {
    condition = None;
    selection = groups [] (record { name = codes "n"; term = count_rows } ∷ record { name = codes "s"; term = aggregate sum (path_value path_of_a) } ∷ []);
  };
  order = None;
  limit = None;
}

pub totals_are_read : read_nested one_schema totals_text ≡ Ok totals
unfolding read_nested parse_nested plain_items keys argument whole_expression bind_nested bind is_utf8 chars lib.Utf8.encode
totals_are_read = refl

its_leaves : query_leaves one_schema.fields totals ≡ the_leaf ∷ []
unfolding query_leaves plain_leaves.query_leaves
its_leaves = refl

is_file : IsFileOf one_file one_schema (query_leaves one_schema.fields totals) one
is_file = subst (λ (F : List Leaf). IsFileOf one_file one_schema F one) (sym its_leaves) one_is_file

-- ---- the premises

pub copies_hold : AreHeld one_schema (query_leaves one_schema.fields totals) files copies (one ∷ one ∷ [])
copies_hold = ((inr (no_file _), (inl is_file, tt)), inr (inl is_file), ((inl is_file, (inl is_file, tt)), inl is_file, tt))

abbrev pub two_tablets_asked : AsksTable two_workers_line tables files
two_tablets_asked = record {
  query = two_workers_words;
  asks = two_workers_asked;
  bytes = table_bytes;
  there = refl;
  table = table;
  is_table = table_reads;
  plan = totals;
  is_query = totals_are_read;
  records = one ∷ one ∷ [];
  held = subst (λ (ts : List (List Copy)). AreHeld one_schema (query_leaves one_schema.fields totals) files ts (one ∷ one ∷ [])) (sym copies_are) copies_hold;
}

-- so where memory is ample the program prints these rows
pub two_tablets_mean : answer_of two_tablets_asked ≡ result_text (cell (codes "n") (Some (int_value (pos 2))) (cell (codes "s") (Some (int_value (pos 2))) no_entries) ∷ [])
unfolding nested_answer_text answered meaning outer_fields outer_records plain.meaning
two_tablets_mean = refl

-- ---- the law of queries that links serve, by two links that hold the same

both_tell : AllTell files (Some files ∷ Some files ∷ [])
both_tell = (λ path. refl, (λ path. refl, tt))

tablets_hold : TabletsHold one_schema (query_leaves one_schema.fields totals) files copies (one ∷ one ∷ [])
tablets_hold = ((inr (no_file _), (inl is_file, tt)), ((inl is_file, (inl is_file, tt)), tt))

-- the first link gives the first tablet, by its second copy, and the second link the second
both_counted : AreCounted one_schema (query_leaves one_schema.fields totals) (Some files ∷ Some files ∷ []) 0 copies [] (one ∷ one ∷ [])
both_counted = is_counted 0 _ _ [] one (one ∷ []) (inl (inr (inl is_file))) (is_counted 1 _ [] [] one [] (inr (inl (inl is_file))) (no_more 2))

pub served_prints_totals : (query_scan table totals).text (joined (one ∷ one ∷ [])) ≡ nested_answer_text one_schema totals (one_record ∷ one_record ∷ [])
served_prints_totals =
    served_prints_meaning table totals_text totals files (Some files ∷ Some files ∷ []) [] (one ∷ one ∷ []) (one ∷ one ∷ []) totals_are_read both_tell
    (subst (λ (ts : List (List Copy)). TabletsHold one_schema (query_leaves one_schema.fields totals) files ts (one ∷ one ∷ [])) (sym copies_are) tablets_hold)
    (subst (λ (ts : List (List Copy)). AreCounted one_schema (query_leaves one_schema.fields totals) (Some files ∷ Some files ∷ []) 0 ts [] (one ∷ one ∷ [])) (sym copies_are) both_counted)
