-- Where clap takes the words of `ask`, its values are there.
use Rattle.std.proofs.Common.{◌≡◌, true, false, refl, List, [], Option, Some, None}
use Rattle.std.specs.Prelude.{codes, option_and_then, option_map}
use Rattle.clap.specs.Words.{Row, Shape, Text, first_of}
use Rattle.clap.specs.Walk.{nothing_held, rows_after}
use Rattle.clap.specs.Simple.{built_leaf, inherited, marked_built, on_top, rows_at}
use Rattle.clap.specs.Takes.{level_passes}
use Rattle.dr_words.specs.Ask.{ask_app, with_query}
use Rattle.dr_commands.specs.Commands.{ask}
use Rattle.dr_words.specs.Words.{dremel_app, words_in}
use Rattle.dr_words.proofs.NeededLemmas.{Has, taken_has_needed}

abbrev pub ask_shape : Shape
ask_shape = built_leaf (inherited (on_top marked_built dremel_app).top ask_app.top)

pub ask_has_values : (words : List Text) → level_passes ask_shape [] nothing_held words false ≡ true → words_in (Some (rows_at ask_shape words)) ≡ None → ⊥
ask_has_values words passes none =
    let needed = taken_has_needed ask_shape words refl refl passes in
    let rows = rows_after ask_shape.rules [] words in
    both_there rows (first_of (codes "schema") rows) (first_of (codes "query") rows) (needed.0 refl) (needed.1.1.1.1.1.0 refl) none
  where
    both_there : (rows : List Row) (schema query : Option Text) → Has schema → Has query
        → option_map ask (option_and_then (λ a. option_map (with_query rows a) query) schema) ≡ None → ⊥
    both_there rows None query s q e = cc
    both_there rows (Some a) None s q e = cc
    both_there rows (Some a) (Some b) s q e = cc
