-- The automaton of leaves in reading order visits the leaves as the walk of a record does.
use Rattle.std.specs.Prelude.{◌≡◌, ℕ, zero, suc, List, [], ◌∷◌, length, true, ◌==◌, if◌then◌else◌, Option, Some, None}
use Rattle.std.specs.List.{slice_get}
use Rattle.dr_meaning.specs.Schema.{Fields}
use Rattle.dr_meaning.specs.Path.{Step, is_leaf_path}
use Rattle.dr_meaning.specs.Record.{Node}
use Rattle.dr_meaning.specs.Automaton.{reading_order, counting, transition}
use Rattle.dr_meaning.specs.Walk.{Move, enter, value, leave, record_moves}

-- the level with which the next triplet of a leaf begins, or 0 where there is none
abbrev pub next_level : ℕ → List Move → ℕ
next_level i [] = 0
next_level i (enter k ∷ ms) = next_level i ms
next_level i (value j t ∷ ms) = if j == i then t.repetition else next_level i ms
next_level i (leave k ∷ ms) = next_level i ms

-- the leaf of the next triplet
abbrev pub next_leaf : List Move → Option ℕ
next_leaf [] = None
next_leaf (enter k ∷ ms) = next_leaf ms
next_leaf (value i t ∷ ms) = Some i
next_leaf (leave k ∷ ms) = next_leaf ms

-- from each triplet the level of its leaf's next triplet leads to the leaf of the next triplet, and in the end to none
abbrev pub LeadsOn : List (List Step) → List Move → Type 0
LeadsOn order [] = Unit {0}
LeadsOn order (enter k ∷ ms) = LeadsOn order ms
LeadsOn order (value i t ∷ ms) = (transition order i (next_level i ms) ≡ next_leaf ms) × LeadsOn order ms
LeadsOn order (leave k ∷ ms) = LeadsOn order ms

-- leaves of these fields, in reading order
abbrev pub AreInReadingOrder : Fields → List (List Step) → Type 0
AreInReadingOrder fs F = (reading_order fs F ≡ counting 0 (length F)) × ((i : ℕ) (p : List Step) → slice_get F i ≡ Some p → is_leaf_path fs p ≡ true)

-- the first of a number of leaves
abbrev pub first_leaf : ℕ → Option ℕ
first_leaf zero = None
first_leaf (suc n) = Some 0

-- over the columns of a record the automaton goes from leaf to leaf as the walk does: it begins at the first leaf, and ends where the record ends
abbrev pub AutomatonVisitsWalk : Type 0
AutomatonVisitsWalk = (fs : Fields) (F : List (List Step)) (n : Node) → AreInReadingOrder fs F
    → (next_leaf (record_moves fs F n) ≡ first_leaf (length F)) × LeadsOn F (record_moves fs F n)
