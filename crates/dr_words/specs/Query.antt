-- The words of `query --table F [--workers N] [--fan N] [--lag N] [--least P] QUERY`.
use Rattle.std.specs.Prelude.{List, [], ◌∷◌, ◌++◌, Option, codes, option_map, option_and_then}
use Rattle.clap.specs.Words.{App, Row, Text, first_of, new_rule}
use Rattle.dr_commands.specs.Numbers.{most_share, default_share}
use Rattle.dr_commands.specs.Query.{QueryWords}
use Rattle.dr_words.specs.Rules.{option_rule, needed, subcommand_app}
use Rattle.dr_words.specs.Numbers.{number_rule, number_in}
use Rattle.dr_words.specs.Serving.{serving_rules, serving_words}

-- its part of the command line
abbrev pub query_app : App
query_app = subcommand_app (codes "query") (needed (option_rule (codes "table")) ∷ serving_rules ++ number_rule (codes "least") 1 most_share ∷ needed (new_rule (codes "query")) ∷ [])

-- its values in what clap found, where all are there
abbrev pub with_query : List Row → Text → Text → QueryWords
with_query rows table query = record {
  table = table;
  serving = serving_words rows;
  least = number_in 1 most_share default_share (first_of (codes "least") rows);
  query = query;
}

abbrev pub query_words : List Row → Option QueryWords
query_words rows = option_and_then (λ table. option_map (with_query rows table) (first_of (codes "query") rows)) (first_of (codes "table") rows)
