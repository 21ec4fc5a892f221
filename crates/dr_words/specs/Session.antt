-- The words of `session --schema F`.
use Rattle.std.specs.Prelude.{List, [], ◌∷◌, Option, codes, option_map}
use Rattle.clap.specs.Words.{App, Row, first_of}
use Rattle.dr_commands.specs.Session.{SessionWords}
use Rattle.dr_words.specs.Rules.{option_rule, needed, subcommand_app}

-- its part of the command line
abbrev pub session_app : App
session_app = subcommand_app (codes "session") (needed (option_rule (codes "schema")) ∷ [])

-- its values in what clap found, where all are there
abbrev pub session_words : List Row → Option SessionWords
session_words rows = option_map (λ schema. record { schema = schema }) (first_of (codes "schema") rows)
