-- `load --schema F --table F [--rows N] [--copies K] [--pages V] DIR..`: the records of the input, put as the tablets of a table.
use Rattle.std.specs.Prelude.{ℕ, true, false, List, [], Option, Some, None, Result, Ok, Err, map, string_bytes}
use Rattle.dr_meaning.specs.Schema.{Schema}
use Rattle.dr_meaning.specs.SchemaText.{SchemaFault, parse_schema}
use Rattle.dr_meaning.specs.Lines as line
use Rattle.dr_formats.specs.Page.{PageForm, data_page_v1, data_page_v2}
use Rattle.dr_formats.specs.Loading.{Plan, Loaded, WordsRefusal, words_refusal, load}
use Rattle.dr_formats.specs.Reports.{loaded_text}
use Rattle.dr_commands.specs.Refusals.{schema_refused, words_refused, line_refused}
use Rattle.dr_commands.specs.Meaning.{Meaning, Outcome, done, refused}
use Rattle.dr_commands.specs.declared.commands.load.Load.{Load}
use Rattle.dr_commands.specs.declared.page_version.PageVersion.{PageVersion}

-- its values
pub record LoadWords : Type 0 where
  pub schema : List ℕ
  pub table : List ℕ
  pub rows : ℕ
  pub copies : ℕ
  pub form : PageForm
  pub directories : List (List ℕ)

abbrev pub version_form : PageVersion → PageForm
version_form PageVersion.V1 = data_page_v1
version_form PageVersion.V2 = data_page_v2

abbrev pub load_view : Load → LoadWords
load_view l = record {
  schema = string_bytes l.schema;
  table = string_bytes l.table;
  rows = l.rows;
  copies = l.copies;
  form = version_form l.pages;
  directories = map string_bytes l.directories.items;
}

-- ---- what it means

abbrev pub load_plan : LoadWords → Schema → Plan
load_plan w s = record { schema = s; directories = w.directories; copies = w.copies; rows = w.rows; table = Some w.table; form = w.form }

-- a line of the input is refused, or all is loaded
abbrev pub loaded_outcome : Loaded → Option line.Refusal → Outcome
loaded_outcome l None = done (loaded_text l.records l.tablets) l.puts
loaded_outcome l (Some e) = refused (line_refused e) l.puts

-- the directories and the number of copies come before the input
abbrev pub load_checked : LoadWords → List ℕ → Schema → Option WordsRefusal → Outcome
load_checked w input s (Some e) = refused (words_refused e) []
load_checked w input s None = loaded_outcome (load (load_plan w s) input) (load (load_plan w s) input).refusal

abbrev pub load_schema : LoadWords → List ℕ → Result Schema SchemaFault → Outcome
load_schema w input (Ok s) = load_checked w input s (words_refusal w.directories w.copies)
load_schema w input (Err e) = refused (schema_refused e) []

abbrev pub load_meaning : LoadWords → Meaning
load_meaning w = record {
  file = Some w.schema;
  reads_input = true;
  puts_files = true;
  links = 0;
  talks = false;
  outcome = λ look. load_schema w look.input (parse_schema look.file);
}
