-- The values of one leaf in the rows of a source, and what is put of them, row by row.
use Rattle.std.specs.Prelude.{◌≡◌, ℕ, List, [], ◌∷◌, map, length, Bool, true, nat_le, ◌==◌, if◌then◌else◌, Option, Some, None, option_map}
use Rattle.dr_meaning.specs.Record.{Value}
use Rattle.dr_meaning.specs.Column.{Triplet}
use Rattle.dr_partials.specs.Putting.{Put}
use Rattle.dr_levels.specs.Views.{lent_value}
use Rattle.dr_levels.specs.declared.triplet.ValueRef.{ValueRef}
use Rattle.dr_group.specs.Groups.{put_of}
use Rattle.dr_beside.specs.Along.{along, value_next}
use Rattle.dr_beside.specs.Feeding.{goes}
use Rattle.dr_rows_beside.specs.declared.place.Place.{Place}
use Rattle.dr_rows_beside.specs.declared.source.Beside.{Beside}
use Rattle.dr_rows_beside.specs.Places.{place_left}
use Rattle.dr_rows_beside.specs.Rows.{Follower}

-- ---- values

-- the values of triplets, and NULLs
abbrev pub own_values : List Triplet → List (Option Value)
own_values ts = map (λ (t : Triplet). t.value) ts

-- at these triplets of a source: its leaf's own values, or those of a leaf beside it, which had this value last
abbrev pub values_along : Option Place → Option Value → List Triplet → List (Option Value)
values_along None now ts = own_values ts
values_along (Some p) now ts = along p.depth now (place_left p) ts

-- a leaf beside it has as many as it takes to go on with them
abbrev pub is_enough : Option Place → List Triplet → Bool
is_enough None ts = true
is_enough (Some p) ts = nat_le (goes p.depth ts) (length (place_left p))

-- what a leaf beside it has at a repetition level
abbrev pub value_there : ℕ → Option Value → Follower → Option Value
value_there r now f = if nat_le r f.depth then value_next now f.left else now

-- the first of these values is given, if there is one, and passed
abbrev pub NextValue : List (Option Value) → List (Option Value) → Option (Option ValueRef) → Type 0
NextValue before after None = before ≡ []
NextValue before after (Some v) = before ≡ option_map lent_value v ∷ after

-- the leaf of this number among those that are read beside one
abbrev pub found_beside : ℕ → List Beside → Option Beside
found_beside k [] = None
found_beside k (b ∷ bs) = if b.leaf == k then Some b else found_beside k bs

-- ---- what is put of them

-- key tuples of one cell
abbrev pub cell_tuples : List (Option Value) → List (List (Option Value))
cell_tuples vs = map (λ (v : Option Value). v ∷ []) vs

-- the group of each
abbrev pub cell_groups : List (Option Value) → List Put
cell_groups vs = map (λ (v : Option Value). put_of (v ∷ []) None) vs
