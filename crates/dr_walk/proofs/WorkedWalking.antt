-- What a walk knows and wants, by computation.
use Rattle.std.specs.Prelude.{◌≡◌, [], ◌∷◌, map, true, false, Some, None, pos, refl}
use Rattle.dr_meaning.specs.Schema.{bool_kind, int32_kind}
use Rattle.dr_meaning.specs.Record.{bool_value, int_value}
use Rattle.dr_meaning.specs.Column.{triplet}
use Rattle.dr_meaning.specs.Walk.{enter, value, leave}
use Rattle.dr_walk.specs.Standing.{fits}
use Rattle.dr_nested.specs.declared.shape.Kind.{Kind}
use Rattle.dr_walk.specs.Walking.{is_known, first_wanted, wanted_behind, triplet_count, moves_over, is_fit}
use Rattle.dr_walk.specs.declared.level_move.LevelMove.{LevelMove}

-- before the first move what comes next is known of the leaves before the one that is wanted; later of all others
pub known : (map (is_known (Some 2) 0) (0 ∷ 1 ∷ 2 ∷ 3 ∷ []) ≡ true ∷ true ∷ false ∷ false ∷ []) × (map (is_known (Some 2) 7) (0 ∷ 1 ∷ 2 ∷ 3 ∷ []) ≡ true ∷ true ∷ false ∷ true ∷ [])
    × (map (is_known None 0) (0 ∷ 3 ∷ []) ≡ true ∷ true ∷ [])
known = (refl, refl, refl)

-- of three leaves each is wanted in turn; once a move was given none is wanted behind the one that was taken
pub wanted : (map first_wanted (0 ∷ 1 ∷ 3 ∷ []) ≡ None ∷ Some 0 ∷ Some 0 ∷ []) × (map (wanted_behind 0 3) (0 ∷ 1 ∷ 2 ∷ []) ≡ Some 1 ∷ Some 2 ∷ None ∷ []) × (map (wanted_behind 5 3) (0 ∷ 1 ∷ 2 ∷ []) ≡ None ∷ None ∷ None ∷ [])
wanted = (refl, refl, refl)

-- a value of the kind, or none where none may be
pub fitting : (map (fits None) (None ∷ Some (bool_value true) ∷ []) ≡ true ∷ false ∷ []) × (map (fits (Some int32_kind)) (None ∷ Some (int_value (pos 7)) ∷ Some (int_value (pos 2147483648)) ∷ Some (bool_value true) ∷ []) ≡ false ∷ true ∷ false ∷ false ∷ [])
    × (map (fits (Some bool_kind)) (Some (bool_value false) ∷ Some (int_value (pos 1)) ∷ []) ≡ true ∷ false ∷ [])
fitting = (refl, refl, refl)

-- what is left gives a leaf's move its triplet, and tells whether its value is there
pub over : (moves_over (λ i. triplet 1 2 (Some (bool_value true)) ∷ []) (Some (LevelMove.Leaf 3 (record { repetition = 1; definition = 2 }) (Some Kind.Bool))) ≡ value 3 (triplet 1 2 (Some (bool_value true))) ∷ [])
    × (moves_over (λ i. []) (Some (LevelMove.Enter 4)) ≡ enter 4 ∷ []) × (moves_over (λ i. []) None ≡ [])
over = (refl, refl, refl)

pub fit : (is_fit (λ i. triplet 1 2 (Some (bool_value true)) ∷ []) (Some (LevelMove.Leaf 3 (record { repetition = 1; definition = 2 }) (Some Kind.Bool))) ≡ true)
    × (is_fit (λ i. triplet 1 2 None ∷ []) (Some (LevelMove.Leaf 3 (record { repetition = 1; definition = 2 }) (Some Kind.Bool))) ≡ false)
    × (is_fit (λ i. triplet 1 1 None ∷ []) (Some (LevelMove.Leaf 3 (record { repetition = 1; definition = 1 }) None)) ≡ true) × (is_fit (λ i. []) (Some (LevelMove.Leave 4)) ≡ true)
fit = (refl, refl, refl, refl)

pub counted : triplet_count (enter 0 ∷ value 1 (triplet 0 0 None) ∷ enter 2 ∷ value 0 (triplet 0 1 None) ∷ leave 2 ∷ leave 0 ∷ []) ≡ 2
counted = refl
