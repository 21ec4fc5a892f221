-- The words of `load --schema F --table F [--rows N] [--copies K] [--pages V] DIR..`.
use Rattle.std.specs.Prelude.{List, [], ◌∷◌, take, ◌==◌, if◌then◌else◌, Option, fold, codes, option_map, option_and_then}
use Rattle.clap.specs.Words.{App, Row, Text, all_of, first_of, new_rule, with_rule}
use Rattle.dr_formats.specs.Page.{PageForm, data_page_v1, data_page_v2}
use Rattle.dr_formats.specs.Loading.{most_tablet_rows}
use Rattle.dr_formats.specs.TableFile.{most_leaf_lines}
use Rattle.dr_commands.specs.Numbers.{default_rows, latest_pages}
use Rattle.dr_commands.specs.Load.{LoadWords}
use Rattle.dr_words.specs.Rules.{option_rule, needed, up_to, subcommand_app}
use Rattle.dr_words.specs.Numbers.{number_rule, number_in}

-- its part of the command line: its files; how many records and copies, in pages of which version, and where to
abbrev pub load_files_app : App
load_files_app = subcommand_app (codes "load") (needed (option_rule (codes "schema")) ∷ needed (option_rule (codes "table")) ∷ [])

abbrev pub load_app : App
load_app = fold with_rule load_files_app (
    number_rule (codes "rows") 1 most_tablet_rows
    ∷ number_rule (codes "copies") 1 most_leaf_lines
    ∷ number_rule (codes "pages") 1 latest_pages
    ∷ up_to most_leaf_lines (needed (new_rule (codes "dir")))
    ∷ [])

-- the form of its data pages: V2 where the words say so
abbrev pub page_form : List Row → PageForm
page_form rows = if number_in 1 latest_pages 1 (first_of (codes "pages") rows) == latest_pages then data_page_v2 else data_page_v1

-- its values, where all are there; clap takes no more directories than there may be
abbrev pub with_directories : List Row → Text → Text → List Text → LoadWords
with_directories rows schema table directories = record {
  schema = schema;
  table = table;
  rows = number_in 1 most_tablet_rows default_rows (first_of (codes "rows") rows);
  copies = number_in 1 most_leaf_lines 1 (first_of (codes "copies") rows);
  form = page_form rows;
  directories = take most_leaf_lines directories;
}

abbrev pub load_words : List Row → Option LoadWords
load_words rows = option_and_then (λ schema. option_and_then (λ table. option_map (with_directories rows schema table) (all_of (codes "dir") rows))
    (first_of (codes "table") rows)) (first_of (codes "schema") rows)
