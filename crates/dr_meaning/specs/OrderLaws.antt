-- What the orders of leaves say: each selected leaf comes once.
use Rattle.std.specs.Prelude.{◌≡◌, ℕ, ◌+◌, List, [], ◌∷◌, true, ◌==◌, if◌then◌else◌, Some}
use Rattle.std.specs.List.{slice_get}
use Rattle.dr_meaning.specs.Schema.{Fields}
use Rattle.dr_meaning.specs.Path.{Step, is_leaf_path}
use Rattle.dr_meaning.specs.Automaton.{schema_order, reading_order}

-- how often a place is among some
abbrev pub times : ℕ → List ℕ → ℕ
times i [] = 0
times i (j ∷ js) = (if j == i then 1 else 0) + times i js

-- the place of each selected leaf comes once in either order
abbrev pub OrdersHaveEachOnce : Type 0
OrdersHaveEachOnce = (fs : Fields) (F : List (List Step)) (i : ℕ) (p : List Step) → slice_get F i ≡ Some p → is_leaf_path fs p ≡ true
    → (times i (schema_order fs F) ≡ 1) × (times i (reading_order fs F) ≡ 1)
