-- The words of `ask --schema F [--rows N] [--workers N] [--fan N] [--lag N] QUERY`.
use Rattle.std.specs.Prelude.{List, [], ◌∷◌, ◌++◌, Option, codes, option_map, option_and_then}
use Rattle.clap.specs.Words.{App, Row, Text, first_of, new_rule}
use Rattle.dr_formats.specs.Loading.{most_tablet_rows}
use Rattle.dr_commands.specs.Numbers.{default_rows}
use Rattle.dr_commands.specs.Ask.{AskWords}
use Rattle.dr_words.specs.Rules.{option_rule, needed, subcommand_app}
use Rattle.dr_words.specs.Numbers.{number_rule, number_in}
use Rattle.dr_words.specs.Serving.{serving_rules, serving_words}

-- its part of the command line
abbrev pub ask_app : App
ask_app = subcommand_app (codes "ask")
    (needed (option_rule (codes "schema")) ∷ number_rule (codes "rows") 1 most_tablet_rows ∷ serving_rules ++ needed (new_rule (codes "query")) ∷ [])

-- its values in what clap found, where all are there
abbrev pub with_query : List Row → Text → Text → AskWords
with_query rows schema query = record {
  schema = schema;
  rows = number_in 1 most_tablet_rows default_rows (first_of (codes "rows") rows);
  serving = serving_words rows;
  query = query;
}

abbrev pub ask_words : List Row → Option AskWords
ask_words rows = option_and_then (λ schema. option_map (with_query rows schema) (first_of (codes "query") rows)) (first_of (codes "schema") rows)
