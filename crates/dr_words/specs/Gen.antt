-- The words of `gen --seed N --records N`.
use Rattle.std.specs.Prelude.{List, [], ◌∷◌, codes}
use Rattle.clap.specs.Words.{App, Row, first_of}
use Rattle.dr_commands.specs.Numbers.{most_seed, most_made}
use Rattle.dr_commands.specs.Gen.{GenWords}
use Rattle.dr_words.specs.Rules.{needed, subcommand_app}
use Rattle.dr_words.specs.Numbers.{number_rule, number_in}

-- its part of the command line
abbrev pub gen_app : App
gen_app = subcommand_app (codes "gen") (needed (number_rule (codes "seed") 0 most_seed) ∷ needed (number_rule (codes "records") 0 most_made) ∷ [])

-- its values in what clap found, which has both
abbrev pub gen_words : List Row → GenWords
gen_words rows = record {
  seed = number_in 0 most_seed 0 (first_of (codes "seed") rows);
  records = number_in 0 most_made 0 (first_of (codes "records") rows);
}
