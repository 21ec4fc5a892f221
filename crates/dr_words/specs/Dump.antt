-- The words of `dump --table F FIELD..`.
use Rattle.std.specs.Prelude.{List, [], ◌∷◌, Option, codes, option_map, option_and_then}
use Rattle.clap.specs.Words.{App, Row, all_of, first_of, new_rule}
use Rattle.dr_commands.specs.Dump.{DumpWords}
use Rattle.dr_words.specs.Rules.{option_rule, needed, several, subcommand_app}

-- its part of the command line
abbrev pub dump_app : App
dump_app = subcommand_app (codes "dump") (needed (option_rule (codes "table")) ∷ several (needed (new_rule (codes "field"))) ∷ [])

-- its values in what clap found, where all are there
abbrev pub dump_words : List Row → Option DumpWords
dump_words rows = option_and_then (λ table. option_map (λ fields. record { table = table; fields = fields }) (all_of (codes "field") rows))
    (first_of (codes "table") rows)
