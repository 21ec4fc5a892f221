-- `dump --table F FIELD..`: the records of a table, projected to some leaves.
use Rattle.std.specs.Prelude.{ℕ, false, List, [], Some, Result, Ok, Err, map, string_bytes}
use Rattle.std.specs.List.{flat_map}
use Rattle.dr_meaning.specs.Path.{Leaf, paths_of_leaves}
use Rattle.dr_meaning.specs.Record.{project}
use Rattle.dr_meaning.specs.Print.{record_text}
use Rattle.dr_meaning.specs.Fsm.{named_leaves}
use Rattle.dr_meaning.specs.Refusals.{CommandRefusal}
use Rattle.dr_formats.specs.TableFile.{Table, TableFault, parse_table}
use Rattle.dr_reading.specs.Scan.{Scan, tablets_of}
use Rattle.dr_commands.specs.Refusals.{table_refused, refusal_of}
use Rattle.dr_commands.specs.Meaning.{Meaning, Outcome, refused, scans}
use Rattle.dr_commands.specs.declared.commands.dump.Dump.{Dump}

-- its values
pub record DumpWords : Type 0 where
  pub table : List ℕ
  pub fields : List (List ℕ)

abbrev pub dump_view : Dump → DumpWords
dump_view d = record { table = string_bytes d.table; fields = map string_bytes d.fields.items }

-- ---- what it means

-- the scan of a table for leaves: each record, projected to them, is a line
abbrev pub dump_scan : Table → List Leaf → Scan
dump_scan t F = record {
  schema = t.schema;
  leaves = F;
  tablets = tablets_of t;
  text = λ R. flat_map (λ n. record_text t.schema.fields (project (paths_of_leaves F) n)) R;
}

abbrev pub dump_named : Table → Result (List Leaf) CommandRefusal → Outcome
dump_named t (Ok F) = scans (dump_scan t F)
dump_named t (Err e) = refused (refusal_of e) []

abbrev pub dump_table : List (List ℕ) → Result Table TableFault → Outcome
dump_table fields (Ok t) = dump_named t (named_leaves t.schema.fields [] 0 fields)
dump_table fields (Err e) = refused (table_refused e) []

abbrev pub dump_meaning : DumpWords → Meaning
dump_meaning w = record {
  file = Some w.table;
  reads_input = false;
  puts_files = false;
  links = 1;
  talks = false;
  outcome = λ look. dump_table w.fields (parse_table look.file);
}
