-- Where clap takes the words of `schema`, its values are there.
use Rattle.std.proofs.Common.{◌≡◌, true, false, refl, List, [], Option, Some, None}
use Rattle.std.specs.Prelude.{codes, option_map}
use Rattle.clap.specs.Words.{Shape, Text, first_of}
use Rattle.clap.specs.Walk.{nothing_held, rows_after}
use Rattle.clap.specs.Simple.{built_leaf, inherited, marked_built, on_top, rows_at}
use Rattle.clap.specs.Takes.{level_passes}
use Rattle.dr_words.specs.ShowSchema.{show_schema_app}
use Rattle.dr_commands.specs.Commands.{show_schema}
use Rattle.dr_words.specs.Words.{dremel_app, words_in}
use Rattle.dr_words.proofs.NeededLemmas.{Has, taken_has_needed}

abbrev pub show_schema_shape : Shape
show_schema_shape = built_leaf (inherited (on_top marked_built dremel_app).top show_schema_app.top)

pub show_schema_has_values : (words : List Text) → level_passes show_schema_shape [] nothing_held words false ≡ true → words_in (Some (rows_at show_schema_shape words)) ≡ None → ⊥
show_schema_has_values words passes none =
    let needed = taken_has_needed show_schema_shape words refl refl passes in
    there (first_of (codes "file") (rows_after show_schema_shape.rules [] words)) (needed.0 refl) none
  where
    there : (file : Option Text) → Has file → option_map show_schema (option_map (λ a. record { file = a }) file) ≡ None → ⊥
    there None s e = cc
    there (Some a) s e = cc
