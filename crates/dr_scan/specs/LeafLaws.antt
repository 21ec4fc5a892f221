-- Laws of the leaves for which records are read.
use Rattle.std.specs.Prelude.{◌≡◌, ℕ, List, [], ◌∷◌, ◌++◌, Ok}
use Rattle.dr_meaning.specs.Schema.{Fields}
use Rattle.dr_meaning.specs.Path.{Leaf, find_leaf}
use Rattle.dr_meaning.specs.Fsm.{named_leaves}
use Rattle.dr_meaning.specs.Query.{Query}
use Rattle.dr_meaning.specs.QueryLeaves.{query_leaves}
use Rattle.dr_scan.specs.FileRecords.{AreLeavesOf}

-- with a leaf that a word names, leaves of the schema are leaves of the schema
abbrev pub FoundAreLeaves : Type 0
FoundAreLeaves = (fs : Fields) (F : List Leaf) (text : List ℕ) (l : Leaf) → AreLeavesOf fs F → find_leaf text fs ≡ Ok l → AreLeavesOf fs (F ++ l ∷ [])

-- the leaves that words name
abbrev pub NamedAreLeaves : Type 0
NamedAreLeaves = (fs : Fields) (texts : List (List ℕ)) (F : List Leaf) → named_leaves fs [] 0 texts ≡ Ok F → AreLeavesOf fs F

-- the leaves that a query uses
abbrev pub UsedAreLeaves : Type 0
UsedAreLeaves = (fs : Fields) (q : Query) → AreLeavesOf fs (query_leaves fs q)
