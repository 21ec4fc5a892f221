-- `query --table F [--workers N] [--fan N] [--lag N] [--least P] QUERY`: a query over the records of a table.
use Rattle.std.specs.Prelude.{ℕ, false, List, [], Some, Result, Ok, Err, string_bytes}
use Rattle.dr_meaning.specs.Refusals.{QueryRefusal}
use Rattle.dr_sub_meaning.specs.Nested.{NestedQuery, query_leaves}
use Rattle.dr_sub_meaning.specs.NestedAsk.{read_nested, nested_answer_text}
use Rattle.dr_formats.specs.TableFile.{Table, TableFault, parse_table}
use Rattle.dr_reading.specs.Scan.{Scan, tablets_of}
use Rattle.dr_commands.specs.Refusals.{table_refused, query_refused}
use Rattle.dr_commands.specs.Meaning.{Meaning, Outcome, refused, serves}
use Rattle.dr_commands.specs.Serving.{ServingWords, serving_view}
use Rattle.dr_commands.specs.declared.commands.query.Query.{Query}

-- its values
pub record QueryWords : Type 0 where
  pub table : List ℕ
  pub serving : ServingWords
  pub least : ℕ
  pub query : List ℕ

abbrev pub query_view : Query → QueryWords
query_view q = record { table = string_bytes q.table; serving = serving_view q.serving; least = q.least; query = string_bytes q.query }

-- ---- what it means: that looks neither at the fan nor at the lag, so what is printed doesn't depend on them

-- the scan of a table for the leaves that a query uses: what is printed is what the query means on the records
abbrev pub query_scan : Table → NestedQuery → Scan
query_scan t n = record {
  schema = t.schema;
  leaves = query_leaves t.schema.fields n;
  tablets = tablets_of t;
  text = nested_answer_text t.schema n;
}

abbrev pub query_read : (workers least : ℕ) → Table → Result NestedQuery QueryRefusal → Outcome
query_read workers least t (Ok n) = serves (query_scan t n) workers least
query_read workers least t (Err e) = refused (query_refused e) []

abbrev pub query_table : (workers least : ℕ) → List ℕ → Result Table TableFault → Outcome
query_table workers least query (Ok t) = query_read workers least t (read_nested t.schema query)
query_table workers least query (Err e) = refused (table_refused e) []

abbrev pub query_meaning : QueryWords → Meaning
query_meaning w = record {
  file = Some w.table;
  reads_input = false;
  puts_files = false;
  links = w.serving.workers;
  talks = false;
  outcome = λ look. query_table w.serving.workers w.least w.query (parse_table look.file);
}
