-- Leaves in reading order whose chains begin with one another are read together.
use Rattle.std.specs.Prelude.{◌≡◌, ◌≤◌, ℕ, List, [], ◌∷◌, true, Some}
use Rattle.std.specs.List.{slice_get, list_all}
use Rattle.dr_meaning.specs.Schema.{Fields}
use Rattle.dr_meaning.specs.Path.{Step, chain, chain_end, is_leaf_path}
use Rattle.dr_meaning.specs.Expression.{longest_chain}
use Rattle.dr_meaning.specs.Walk.{is_chain_front}
use Rattle.dr_meaning.specs.AutomatonLaws.{AreInReadingOrder}
use Rattle.dr_moves.specs.Selection.{all_differ}
use Rattle.dr_moves.specs.Firing.{AllTogether}

-- each of these leaves comes no later than leaf i, and its chain is the first part of that of leaf i
abbrev pub AllBefore : List (List Step) → ℕ → List Step → List ℕ → Type 0
AllBefore F i p [] = Unit {0}
AllBefore F i p (k ∷ K) = ((q : List Step) × (slice_get F k ≡ Some q) × (k ≤ i) × (is_chain_front (chain q) (chain p) ≡ true)) × AllBefore F i p K

-- in a selection in reading order, each leaf once
abbrev pub ReadTogether : Type 0
ReadTogether = (fs : Fields) (F : List (List Step)) (i : ℕ) (p : List Step) (K : List ℕ) → AreInReadingOrder fs F → all_differ F ≡ true → slice_get F i ≡ Some p → AllBefore F i p K → AllTogether F i p K

-- the longest chain of leaves whose chains are first parts of that of one of them is its chain
abbrev pub LevelOfLast : Type 0
LevelOfLast = (fs : Fields) (ps : List (List Step)) (p : List Step) (j : ℕ) → list_all (is_leaf_path fs) ps ≡ true → list_all (λ q. is_chain_front (chain q) (chain p)) ps ≡ true
    → slice_get ps j ≡ Some p → longest_chain ps ≡ chain_end p
