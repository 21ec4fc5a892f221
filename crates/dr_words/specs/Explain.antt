-- The words of `explain --schema F QUERY`.
use Rattle.std.specs.Prelude.{List, [], ◌∷◌, Option, codes, option_map, option_and_then}
use Rattle.clap.specs.Words.{App, Row, first_of, new_rule}
use Rattle.dr_commands.specs.Explain.{ExplainWords}
use Rattle.dr_words.specs.Rules.{option_rule, needed, subcommand_app}

-- its part of the command line
abbrev pub explain_app : App
explain_app = subcommand_app (codes "explain") (needed (option_rule (codes "schema")) ∷ needed (new_rule (codes "query")) ∷ [])

-- its values in what clap found, where all are there
abbrev pub explain_words : List Row → Option ExplainWords
explain_words rows = option_and_then (λ schema. option_map (λ query. record { schema = schema; query = query }) (first_of (codes "query") rows))
    (first_of (codes "schema") rows)
