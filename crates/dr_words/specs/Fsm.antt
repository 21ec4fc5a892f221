-- The words of `fsm --schema F FIELD..`.
use Rattle.std.specs.Prelude.{List, [], ◌∷◌, Option, codes, option_map, option_and_then}
use Rattle.clap.specs.Words.{App, Row, all_of, first_of, new_rule}
use Rattle.dr_commands.specs.Fsm.{FsmWords}
use Rattle.dr_words.specs.Rules.{option_rule, needed, several, subcommand_app}

-- its part of the command line
abbrev pub fsm_app : App
fsm_app = subcommand_app (codes "fsm") (needed (option_rule (codes "schema")) ∷ several (needed (new_rule (codes "field"))) ∷ [])

-- its values in what clap found, where all are there
abbrev pub fsm_words : List Row → Option FsmWords
fsm_words rows = option_and_then (λ schema. option_map (λ fields. record { schema = schema; fields = fields }) (all_of (codes "field") rows))
    (first_of (codes "schema") rows)
