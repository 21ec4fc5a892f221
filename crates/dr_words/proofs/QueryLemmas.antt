-- Where clap takes the words of `query`, its values are there.
use Rattle.std.proofs.Common.{◌≡◌, true, false, refl, List, [], Option, Some, None}
use Rattle.std.specs.Prelude.{codes, option_and_then, option_map}
use Rattle.clap.specs.Words.{Row, Shape, Text, first_of}
use Rattle.clap.specs.Walk.{nothing_held, rows_after}
use Rattle.clap.specs.Simple.{built_leaf, inherited, marked_built, on_top, rows_at}
use Rattle.clap.specs.Takes.{level_passes}
use Rattle.dr_words.specs.Query.{query_app, with_query}
use Rattle.dr_commands.specs.Commands.{query}
use Rattle.dr_words.specs.Words.{dremel_app, words_in}
use Rattle.dr_words.proofs.NeededLemmas.{Has, taken_has_needed}

abbrev pub query_shape : Shape
query_shape = built_leaf (inherited (on_top marked_built dremel_app).top query_app.top)

pub query_has_values : (words : List Text) → level_passes query_shape [] nothing_held words false ≡ true → words_in (Some (rows_at query_shape words)) ≡ None → ⊥
query_has_values words passes none =
    let needed = taken_has_needed query_shape words refl refl passes in
    let rows = rows_after query_shape.rules [] words in
    both_there rows (first_of (codes "table") rows) (first_of (codes "query") rows) (needed.0 refl) (needed.1.1.1.1.1.0 refl) none
  where
    both_there : (rows : List Row) (table text : Option Text) → Has table → Has text
        → option_map query (option_and_then (λ a. option_map (with_query rows a) text) table) ≡ None → ⊥
    both_there rows None text s q e = cc
    both_there rows (Some a) None s q e = cc
    both_there rows (Some a) (Some b) s q e = cc
