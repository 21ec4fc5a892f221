-- What the walk of records says of their columns, and that its moves nest.
use Rattle.std.specs.Prelude.{◌≡◌, ℕ, List, [], ◌∷◌, map, true, ◌==◌, if◌then◌else◌, Option, Some, option_and_then}
use Rattle.std.specs.List.{list_all, slice_get}
use Rattle.dr_meaning.specs.Schema.{Fields}
use Rattle.dr_meaning.specs.Path.{Step, Leaf, leaves, is_leaf_path}
use Rattle.dr_meaning.specs.Record.{Node, is_record}
use Rattle.dr_meaning.specs.Column.{Triplet, column}
use Rattle.dr_meaning.specs.Walk.{Move, enter, value, leave, walk, Open, no_record, open_after}

-- the triplets that moves give of one selected leaf, by its place in the selection
abbrev pub triplets_of : ℕ → List Move → List Triplet
triplets_of i [] = []
triplets_of i (enter k ∷ ms) = triplets_of i ms
triplets_of i (value j t ∷ ms) = if j == i then t ∷ triplets_of i ms else triplets_of i ms
triplets_of i (leave k ∷ ms) = triplets_of i ms

-- the walk of records gives of each selected leaf its column, in order
abbrev pub WalkGivesColumns : Type 0
WalkGivesColumns = (fs : Fields) (F : List (List Step)) (i : ℕ) (p : List Step) (R : List Node) → slice_get F i ≡ Some p → is_leaf_path fs p ≡ true
    → list_all (is_record fs) R ≡ true → triplets_of i (walk fs F R) ≡ column p R

-- what is open after moves, one after another; none where one of them doesn't nest
abbrev pub open_after_moves : Fields → List Leaf → Open → List Move → Option Open
open_after_moves fs F o [] = Some o
open_after_moves fs F o (m ∷ ms) = option_and_then (λ p. open_after_moves fs F p ms) (open_after fs F o m)

-- each of these is a leaf of the fields
abbrev pub AreLeavesOf : Fields → List Leaf → Type 0
AreLeavesOf fs F = (i : ℕ) (l : Leaf) → slice_get F i ≡ Some l → (j : ℕ) × (slice_get (leaves fs) j ≡ Some l)

-- each move of the walk of records nests on what is open there, and in the end no record is open
abbrev pub WalkNests : Type 0
WalkNests = (fs : Fields) (F : List Leaf) (R : List Node) → AreLeavesOf fs F → list_all (is_record fs) R ≡ true
    → open_after_moves fs F no_record (walk fs (map (λ (l : Leaf). l.path) F) R) ≡ Some no_record
