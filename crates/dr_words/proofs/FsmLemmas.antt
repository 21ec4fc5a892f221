-- Where clap takes the words of `fsm`, its values are there.
use Rattle.std.proofs.Common.{◌≡◌, true, false, refl, List, [], Option, Some, None}
use Rattle.std.specs.Prelude.{bytes_eq, codes, option_and_then, option_map, slice_get}
use Rattle.std.specs.List.{find}
use Rattle.clap.specs.Words.{Row, Shape, Text, all_of, first_of}
use Rattle.clap.specs.Walk.{nothing_held, rows_after}
use Rattle.clap.specs.Simple.{built_leaf, inherited, marked_built, on_top, rows_at}
use Rattle.clap.specs.Takes.{level_passes}
use Rattle.dr_words.specs.Fsm.{fsm_app}
use Rattle.dr_commands.specs.Commands.{fsm}
use Rattle.dr_words.specs.Words.{dremel_app, words_in}
use Rattle.dr_words.proofs.NeededLemmas.{Has, taken_has_needed}

abbrev pub fsm_shape : Shape
fsm_shape = built_leaf (inherited (on_top marked_built dremel_app).top fsm_app.top)

-- what has a first value has values
first_and_all : (row : Option Row) → Has (option_and_then (λ (r : Row). slice_get r.values 0) row) → option_map (λ (r : Row). r.values) row ≡ None → ⊥
first_and_all None h e = let q = h.1 in cc
first_and_all (Some r) h e = cc

pub fsm_has_values : (words : List Text) → level_passes fsm_shape [] nothing_held words false ≡ true → words_in (Some (rows_at fsm_shape words)) ≡ None → ⊥
fsm_has_values words passes none =
    let needed = taken_has_needed fsm_shape words refl refl passes in
    let row = find (λ (r : Row). bytes_eq r.id (codes "field")) (rows_after fsm_shape.rules [] words) in
    both_there (first_of (codes "schema") (rows_after fsm_shape.rules [] words)) (all_of (codes "field") (rows_after fsm_shape.rules [] words)) (needed.0 refl)
    (first_and_all row (needed.1.0 refl)) none
  where
    both_there : (schema : Option Text) (fields : Option (List Text)) → Has schema → (fields ≡ None → ⊥)
        → option_map fsm (option_and_then (λ a. option_map (λ b. record { schema = a; fields = b }) fields) schema) ≡ None → ⊥
    both_there None fields s q e = cc
    both_there (Some a) None s q e = q refl
    both_there (Some a) (Some b) s q e = cc
