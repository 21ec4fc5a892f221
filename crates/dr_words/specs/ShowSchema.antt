-- The words of `schema FILE`.
use Rattle.std.specs.Prelude.{List, [], ◌∷◌, Option, codes, option_map}
use Rattle.clap.specs.Words.{App, Row, first_of, new_rule}
use Rattle.dr_commands.specs.ShowSchema.{ShowSchemaWords}
use Rattle.dr_words.specs.Rules.{needed, subcommand_app}

-- its part of the command line
abbrev pub show_schema_app : App
show_schema_app = subcommand_app (codes "schema") (needed (new_rule (codes "file")) ∷ [])

-- its values in what clap found, where all are there
abbrev pub show_schema_words : List Row → Option ShowSchemaWords
show_schema_words rows = option_map (λ file. record { file = file }) (first_of (codes "file") rows)
