-- Where a leaf's column is read: what is left of it.
use Rattle.std.specs.Prelude.{◌≡◌, ℕ, List, [], ◌∷◌, drop, Option, Some, None, option_map}
use Rattle.dr_meaning.specs.Column.{Triplet}
use Rattle.dr_levels.specs.Dense.{joined}
use Rattle.dr_levels.specs.Lent.{lent_values}
use Rattle.dr_levels.specs.Views.{lent_value}
use Rattle.dr_levels.specs.declared.triplet.ValueRef.{ValueRef}
use Rattle.dr_rows_beside.specs.declared.place.Place.{Place}

-- the triplets from the next one on
abbrev pub place_left : Place → List Triplet
place_left p = joined p.greatest (drop p.at p.levels.now) (drop p.value (lent_values p.values))

-- the next triplet is passed, and its value given
abbrev pub Passes : List Triplet → List Triplet → Option ValueRef → Type 0
Passes before after v = (t : Triplet) × (before ≡ t ∷ after) × (t.value ≡ option_map lent_value v)

-- the repetition level of the first of some triplets
abbrev pub LevelsAt : Option ℕ → List Triplet → Type 0
LevelsAt r [] = r ≡ None
LevelsAt r (t ∷ ts) = r ≡ Some t.repetition
