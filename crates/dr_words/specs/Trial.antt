-- The words of `trial --seed N --records N [--rows N] [--workers N] [--fan N] [--lag N]`.
use Rattle.std.specs.Prelude.{List, ◌∷◌, codes}
use Rattle.clap.specs.Words.{App, Row, first_of}
use Rattle.dr_formats.specs.Loading.{most_tablet_rows}
use Rattle.dr_commands.specs.Numbers.{default_rows, most_seed, most_made}
use Rattle.dr_commands.specs.Trial.{TrialWords}
use Rattle.dr_words.specs.Rules.{needed, subcommand_app}
use Rattle.dr_words.specs.Numbers.{number_rule, number_in}
use Rattle.dr_words.specs.Serving.{serving_rules, serving_words}

-- its part of the command line
abbrev pub trial_app : App
trial_app = subcommand_app (codes "trial")
    (needed (number_rule (codes "seed") 0 most_seed) ∷ needed (number_rule (codes "records") 0 most_made) ∷ number_rule (codes "rows") 1 most_tablet_rows
    ∷ serving_rules)

-- its values in what clap found, which has seed and records
abbrev pub trial_words : List Row → TrialWords
trial_words rows = record {
  seed = number_in 0 most_seed 0 (first_of (codes "seed") rows);
  records = number_in 0 most_made 0 (first_of (codes "records") rows);
  rows = number_in 1 most_tablet_rows default_rows (first_of (codes "rows") rows);
  serving = serving_words rows;
}
