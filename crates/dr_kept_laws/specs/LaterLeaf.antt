-- Which of two leaves of one chain is read before the other.
use Rattle.std.specs.Prelude.{◌≡◌, ℕ, List, [], ◌∷◌, Bool, true, false, ◌||◌, ◌==◌, if◌then◌else◌, Some}
use Rattle.std.specs.List.{slice_get, list_all}
use Rattle.dr_meaning.specs.Schema.{Fields}
use Rattle.dr_meaning.specs.Path.{Step, is_leaf_path, chain_end, begins_with}
use Rattle.dr_meaning.specs.Automaton.{reading_order}
use Rattle.dr_moves.specs.Selection.{all_differ}
use Rattle.dr_moves.specs.Together.{Together}

-- going through the list, leaf k is met no later than leaf i
abbrev pub comes_first : ℕ → ℕ → List ℕ → Bool
comes_first k i [] = true
comes_first k i (j ∷ js) = if j == k then true else if j == i then false else comes_first k i js

-- of two leaves, one of whose chains begins with the other's, the later one in reading order has the longer chain, and both are read together
abbrev pub LaterReadsBoth : Type 0
LaterReadsBoth = (fs : Fields) (F : List (List Step)) (i k : ℕ) (p q : List Step) → list_all (is_leaf_path fs) F ≡ true → all_differ F ≡ true
    → slice_get F i ≡ Some p → slice_get F k ≡ Some q → (begins_with (chain_end q) (chain_end p) || begins_with (chain_end p) (chain_end q)) ≡ true
    → comes_first k i (reading_order fs F) ≡ true → (begins_with (chain_end q) (chain_end p) ≡ true) × Together (k ≡ i) (Unit {0}) q p
