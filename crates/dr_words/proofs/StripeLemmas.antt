-- Where clap takes the words of `stripe`, its values are there.
use Rattle.std.proofs.Common.{◌≡◌, true, false, refl, List, [], Option, Some, None}
use Rattle.std.specs.Prelude.{codes, option_and_then, option_map}
use Rattle.clap.specs.Words.{Shape, Text, first_of}
use Rattle.clap.specs.Walk.{nothing_held, rows_after}
use Rattle.clap.specs.Simple.{built_leaf, inherited, marked_built, on_top, rows_at}
use Rattle.clap.specs.Takes.{level_passes}
use Rattle.dr_words.specs.Stripe.{stripe_app}
use Rattle.dr_commands.specs.Commands.{stripe}
use Rattle.dr_words.specs.Words.{dremel_app, words_in}
use Rattle.dr_words.proofs.NeededLemmas.{Has, taken_has_needed}

abbrev pub stripe_shape : Shape
stripe_shape = built_leaf (inherited (on_top marked_built dremel_app).top stripe_app.top)

pub stripe_has_values : (words : List Text) → level_passes stripe_shape [] nothing_held words false ≡ true → words_in (Some (rows_at stripe_shape words)) ≡ None → ⊥
stripe_has_values words passes none =
    let needed = taken_has_needed stripe_shape words refl refl passes in
    both_there (first_of (codes "schema") (rows_after stripe_shape.rules [] words)) (first_of (codes "field") (rows_after stripe_shape.rules [] words)) (needed.0 refl)
    (needed.1.0 refl) none
  where
    both_there : (schema field : Option Text) → Has schema → Has field
        → option_map stripe (option_and_then (λ a. option_map (λ b. record { schema = a; field = b }) field) schema) ≡ None → ⊥
    both_there None field s q e = cc
    both_there (Some a) None s q e = cc
    both_there (Some a) (Some b) s q e = cc
