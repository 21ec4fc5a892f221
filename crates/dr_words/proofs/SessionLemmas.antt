-- Where clap takes the words of `session`, its values are there.
use Rattle.std.proofs.Common.{◌≡◌, true, false, refl, List, [], Option, Some, None}
use Rattle.std.specs.Prelude.{codes, option_map}
use Rattle.clap.specs.Words.{Shape, Text, first_of}
use Rattle.clap.specs.Walk.{nothing_held, rows_after}
use Rattle.clap.specs.Simple.{built_leaf, inherited, marked_built, on_top, rows_at}
use Rattle.clap.specs.Takes.{level_passes}
use Rattle.dr_words.specs.Session.{session_app}
use Rattle.dr_commands.specs.Commands.{session}
use Rattle.dr_words.specs.Words.{dremel_app, words_in}
use Rattle.dr_words.proofs.NeededLemmas.{Has, taken_has_needed}

abbrev pub session_shape : Shape
session_shape = built_leaf (inherited (on_top marked_built dremel_app).top session_app.top)

pub session_has_values : (words : List Text) → level_passes session_shape [] nothing_held words false ≡ true → words_in (Some (rows_at session_shape words)) ≡ None → ⊥
session_has_values words passes none =
    let needed = taken_has_needed session_shape words refl refl passes in
    there (first_of (codes "schema") (rows_after session_shape.rules [] words)) (needed.0 refl) none
  where
    there : (schema : Option Text) → Has schema → option_map session (option_map (λ a. record { schema = a }) schema) ≡ None → ⊥
    there None s e = cc
    there (Some a) s e = cc
