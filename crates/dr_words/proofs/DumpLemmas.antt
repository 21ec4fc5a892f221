-- Where clap takes the words of `dump`, its values are there.
use Rattle.std.proofs.Common.{◌≡◌, true, false, refl, List, [], Option, Some, None}
use Rattle.std.specs.Prelude.{bytes_eq, codes, option_and_then, option_map, slice_get}
use Rattle.std.specs.List.{find}
use Rattle.clap.specs.Words.{Row, Shape, Text, all_of, first_of}
use Rattle.clap.specs.Walk.{nothing_held, rows_after}
use Rattle.clap.specs.Simple.{built_leaf, inherited, marked_built, on_top, rows_at}
use Rattle.clap.specs.Takes.{level_passes}
use Rattle.dr_words.specs.Dump.{dump_app}
use Rattle.dr_commands.specs.Commands.{dump}
use Rattle.dr_words.specs.Words.{dremel_app, words_in}
use Rattle.dr_words.proofs.NeededLemmas.{Has, taken_has_needed}

abbrev pub dump_shape : Shape
dump_shape = built_leaf (inherited (on_top marked_built dremel_app).top dump_app.top)

-- what has a first value has values
first_and_all : (row : Option Row) → Has (option_and_then (λ (r : Row). slice_get r.values 0) row) → option_map (λ (r : Row). r.values) row ≡ None → ⊥
first_and_all None h e = let q = h.1 in cc
first_and_all (Some r) h e = cc

pub dump_has_values : (words : List Text) → level_passes dump_shape [] nothing_held words false ≡ true → words_in (Some (rows_at dump_shape words)) ≡ None → ⊥
dump_has_values words passes none =
    let needed = taken_has_needed dump_shape words refl refl passes in
    let row = find (λ (r : Row). bytes_eq r.id (codes "field")) (rows_after dump_shape.rules [] words) in
    both_there (first_of (codes "table") (rows_after dump_shape.rules [] words)) (all_of (codes "field") (rows_after dump_shape.rules [] words)) (needed.0 refl)
    (first_and_all row (needed.1.0 refl)) none
  where
    both_there : (table : Option Text) (fields : Option (List Text)) → Has table → (fields ≡ None → ⊥)
        → option_map dump (option_and_then (λ a. option_map (λ b. record { table = a; fields = b }) fields) table) ≡ None → ⊥
    both_there None fields s q e = cc
    both_there (Some a) None s q e = q refl
    both_there (Some a) (Some b) s q e = cc
