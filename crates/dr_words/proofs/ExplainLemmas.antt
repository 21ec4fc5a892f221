-- Where clap takes the words of `explain`, its values are there.
use Rattle.std.proofs.Common.{◌≡◌, true, false, refl, List, [], Option, Some, None}
use Rattle.std.specs.Prelude.{codes, option_and_then, option_map}
use Rattle.clap.specs.Words.{Shape, Text, first_of}
use Rattle.clap.specs.Walk.{nothing_held, rows_after}
use Rattle.clap.specs.Simple.{built_leaf, inherited, marked_built, on_top, rows_at}
use Rattle.clap.specs.Takes.{level_passes}
use Rattle.dr_words.specs.Explain.{explain_app}
use Rattle.dr_commands.specs.Commands.{explain}
use Rattle.dr_words.specs.Words.{dremel_app, words_in}
use Rattle.dr_words.proofs.NeededLemmas.{Has, taken_has_needed}

abbrev pub explain_shape : Shape
explain_shape = built_leaf (inherited (on_top marked_built dremel_app).top explain_app.top)

pub explain_has_values : (words : List Text) → level_passes explain_shape [] nothing_held words false ≡ true → words_in (Some (rows_at explain_shape words)) ≡ None → ⊥
explain_has_values words passes none =
    let needed = taken_has_needed explain_shape words refl refl passes in
    both_there (first_of (codes "schema") (rows_after explain_shape.rules [] words)) (first_of (codes "query") (rows_after explain_shape.rules [] words)) (needed.0 refl)
    (needed.1.0 refl) none
  where
    both_there : (schema query : Option Text) → Has schema → Has query
        → option_map explain (option_and_then (λ a. option_map (λ b. record { schema = a; query = b }) query) schema) ≡ None → ⊥
    both_there None query s q e = cc
    both_there (Some a) None s q e = cc
    both_there (Some a) (Some b) s q e = cc
