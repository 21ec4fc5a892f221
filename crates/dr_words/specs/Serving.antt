-- The words of how a query is served: `[--workers N] [--fan N] [--lag N]`.
use Rattle.std.specs.Prelude.{List, [], ◌∷◌, codes}
use Rattle.clap.specs.Words.{Row, Rule, first_of}
use Rattle.dr_commands.specs.Numbers.{least_fan, most_fan, default_fan, most_workers, default_workers, most_lag, default_lag}
use Rattle.dr_words.specs.Numbers.{number_rule, number_in}
use Rattle.dr_commands.specs.Serving.{ServingWords}

-- their part of the command line
abbrev pub serving_rules : List Rule
serving_rules = number_rule (codes "workers") 1 most_workers ∷ number_rule (codes "fan") least_fan most_fan ∷ number_rule (codes "lag") 1 most_lag ∷ []

-- these values in what clap found
abbrev pub serving_words : List Row → ServingWords
serving_words rows = record {
  workers = number_in 1 most_workers default_workers (first_of (codes "workers") rows);
  fan = number_in least_fan most_fan default_fan (first_of (codes "fan") rows);
  lag = number_in 1 most_lag default_lag (first_of (codes "lag") rows);
}
