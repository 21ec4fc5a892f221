-- The words of `stripe --schema F FIELD`.
use Rattle.std.specs.Prelude.{List, [], ◌∷◌, Option, codes, option_map, option_and_then}
use Rattle.clap.specs.Words.{App, Row, first_of, new_rule}
use Rattle.dr_commands.specs.Stripe.{StripeWords}
use Rattle.dr_words.specs.Rules.{option_rule, needed, subcommand_app}

-- its part of the command line
abbrev pub stripe_app : App
stripe_app = subcommand_app (codes "stripe") (needed (option_rule (codes "schema")) ∷ needed (new_rule (codes "field")) ∷ [])

-- its values in what clap found, where all are there
abbrev pub stripe_words : List Row → Option StripeWords
stripe_words rows = option_and_then (λ schema. option_map (λ field. record { schema = schema; field = field }) (first_of (codes "field") rows))
    (first_of (codes "schema") rows)
