-- When a text names no leaf: it leads to a group, or to no field.
use Rattle.std.specs.Prelude.{◌≡◌, ◌↔◌, ℕ, List, ◌∷◌, ◌++◌, true, Err}
use Rattle.dr_meaning.specs.Schema.{Fields, is_group}
use Rattle.dr_meaning.specs.Path.{Leaf, find_leaf, unknown_field, not_a_leaf}
use Rattle.dr_meaning.specs.PathLaws.{IsNamedLeaf}

-- the text and a dot are the beginning of the names of a leaf, joined by dots
abbrev pub IsOnTheWay : List ℕ → Fields → Type 0
IsOnTheWay text fs = (rest : List ℕ) × (l : Leaf) × IsNamedLeaf (text ++ 46 ∷ rest) fs l

-- a text leads to a group exactly where it is on the way to a leaf
abbrev pub FindGroupIsExact : Type 0
FindGroupIsExact = (text : List ℕ) (fs : Fields) → is_group fs ≡ true → (find_leaf text fs ≡ Err not_a_leaf) ↔ IsOnTheWay text fs

-- it leads to no field exactly where it names no leaf and is on the way to none
abbrev pub FindNothingIsExact : Type 0
FindNothingIsExact = (text : List ℕ) (fs : Fields) → is_group fs ≡ true
    → (find_leaf text fs ≡ Err unknown_field) ↔ (((l : Leaf) → IsNamedLeaf text fs l → ⊥) × (IsOnTheWay text fs → ⊥))
