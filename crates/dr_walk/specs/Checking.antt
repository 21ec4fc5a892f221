-- A walk over columns of which so much is left.
use Rattle.std.specs.Prelude.{◌≡◌, ℕ, ⊤, List, [], map, Bool, true, false, ◌==◌, if◌then◌else◌, Option, Some, None, get_or, Result, Ok, Err}
use Rattle.std.specs.List.{list_all}
use Rattle.dr_meaning.specs.Schema.{Fields}
use Rattle.dr_meaning.specs.Path.{Step, is_leaf_path}
use Rattle.dr_meaning.specs.Record as record_tree
use Rattle.dr_meaning.specs.Column.{Triplet}
use Rattle.dr_meaning.specs.Walk.{Move}
use Rattle.dr_levels.specs.Views.{triplets_view}
use Rattle.dr_levels.specs.declared.triplets.Triplets.{Triplets}
use Rattle.dr_moves.specs.Leading.{Left, head_of, tail_of}
use Rattle.dr_moves.specs.Selection.{all_differ}
use Rattle.dr_walk.specs.Walking.{HasColumns, NoneHas, is_known}
use Rattle.dr_walk.specs.Valued.{IsAt}
use Rattle.dr_walk.specs.declared.fault.AssembleFault.{AssembleFault}
use Rattle.dr_walk.specs.declared.walk.Walk.{Walk}

-- what is left of a leaf's column
abbrev pub rest_at : List Triplets → ℕ → List Triplet
rest_at rests i = get_or (map triplets_view rests) i []

-- the next triplet of the leaf that is wanted
abbrev pub next_at : Option ℕ → (ℕ → List Triplet) → Option Triplet
next_at None rest = None
next_at (Some i) rest = head_of (rest i)

-- what is left of a leaf's column once the wanted triplet was taken
abbrev pub rest_behind : Option ℕ → ℕ → List Triplet → List Triplet
rest_behind None i ts = ts
rest_behind (Some j) i ts = if i == j then tail_of ts else ts

-- of what the walk knows, the first triplet was taken
abbrev pub untaken : Bool → List Triplet → List Triplet
untaken true ts = tail_of ts
untaken false ts = ts

-- a walk over these columns that gave these moves, and of which this was not taken yet
pub record IsOn (fs : Fields) (F : List (List Step)) (C : List (List Triplet)) (rows : ℕ) (ms : List Move) (w : Walk) (rests : List Triplets) : Type 0 where
  pub left : Left
  pub at : IsAt fs F rows C ms left w
  pub rest : (i : ℕ) → rest_at rests i ≡ untaken (is_known w.levels.wanted w.levels.given i) (left i)

-- a walk over these columns that gave some moves
abbrev pub StandsOver : Fields → List (List Step) → List (List Triplet) → ℕ → Walk → List Triplets → Type 0
StandsOver fs F C rows w rests = (ms : List Move) × IsOn fs F C rows ms w rests

-- the walk is at its end over columns that records have; or it goes on over them; or no records have them
abbrev pub Advances : Fields → List (List Step) → List (List Triplet) → ℕ → Walk → List Triplets → Result Bool AssembleFault → Type 0
Advances fs F C rows w rests (Ok true) = (R : List record_tree.Node) × HasColumns fs F C rows R
Advances fs F C rows w rests (Ok false) = StandsOver fs F C rows w rests
Advances fs F C rows w rests (Err AssembleFault.BadData) = NoneHas fs F C rows
Advances fs F C rows w rests (Err AssembleFault.NoMemory) = ⊤

-- what is said of a call, over any columns over which the walk stood
abbrev pub OverStanding : Walk → List Triplets → (Fields → List (List Step) → List (List Triplet) → ℕ → Type 0) → Type 0
OverStanding w rests says = (fs : Fields) (F : List (List Step)) (C : List (List Triplet)) (rows : ℕ) → list_all (is_leaf_path fs) F ≡ true → all_differ F ≡ true
    → StandsOver fs F C rows w rests → says fs F C rows
