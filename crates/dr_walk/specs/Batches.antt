-- A walk over batches of columns: so much of each column is at hand, and more may come.
use Rattle.std.specs.Prelude.{◌≡◌, ◌<◌, ℕ, ⊤, List, [], ◌∷◌, ◌++◌, length, drop, Bool, true, false, Option, Some, None, option_map, is_some, get_or, Result, Ok, Err}
use Rattle.std.specs.List.{list_all}
use Rattle.dr_meaning.specs.Schema.{Fields}
use Rattle.dr_meaning.specs.Path.{Step, Leaf, is_leaf_path}
use Rattle.dr_meaning.specs.Record as record_tree
use Rattle.dr_meaning.specs.Column.{Triplet}
use Rattle.dr_meaning.specs.Walk.{Move, walk, no_record}
use Rattle.dr_meaning.specs.WalkLaws.{open_after_moves}
use Rattle.dr_levels.specs.Views.{levels_pair, move_view}
use Rattle.dr_levels.specs.declared.moves.Move.{Move as CodeMove}
use Rattle.dr_levels.specs.declared.triplet.Levels.{Levels}
use Rattle.dr_moves.specs.Leading.{Left}
use Rattle.dr_moves.specs.Selection.{all_differ}
use Rattle.dr_walk.specs.Walking.{HasColumns, NoneHas, IsAtLevels, is_known, next_levels, leaf_of, given_leaf, moves_over, is_fit}
use Rattle.dr_walk.specs.declared.batches.Turned.{Turned}
use Rattle.dr_walk.specs.declared.fault.AssembleFault.{AssembleFault}
use Rattle.dr_walk.specs.declared.level_move.LevelMove.{LevelMove}
use Rattle.dr_walk.specs.declared.level_walk.LevelWalk.{LevelWalk}

-- a walk over these columns that gave these moves; of each column this is at hand, and behind it this comes later. Where it is known that a leaf has
-- no more triplets, none comes later
pub record IsOver (fs : Fields) (F : List (List Step)) (C : List (List Triplet)) (rows : ℕ) (ms : List Move) (w : LevelWalk) (here : Left) (later : Left) : Type 0 where
  pub left : Left
  pub at : IsAtLevels fs F rows C ms left w
  pub rest : (i : ℕ) → left i ≡ here i ++ later i
  pub heard : (i : ℕ) → is_known w.wanted w.given i ≡ true → here i ≡ [] → later i ≡ []

-- whether a column is at its end behind its batch
abbrev pub is_last : List Bool → ℕ → Bool
is_last ended i = get_or ended i false

-- behind the last batch of a column nothing comes
abbrev pub EndsWith : List Bool → Left → Type 0
EndsWith ended later = (i : ℕ) → is_last ended i ≡ true → later i ≡ []

-- the levels of the next triplet of the batch of the leaf that is wanted came; or none, where nothing comes behind it
abbrev pub ComesOf : Option ℕ → Left → Left → Option Levels → Type 0
ComesOf None here later more = more ≡ None
ComesOf (Some i) here later more = (option_map levels_pair more ≡ next_levels (here i)) × (more ≡ None → later i ≡ [])

-- a move by levels as a move, by what is left of the batches; or the value that it asks for isn't there
abbrev pub IsGivenOf : Left → LevelMove → Option CodeMove → Type 0
IsGivenOf rest s (Some m) = (is_fit rest (Some s) ≡ true) × (moves_over rest (Some s) ≡ move_view m ∷ []) × (given_leaf s ≡ leaf_of m)
IsGivenOf rest s None = is_fit rest (Some s) ≡ false

-- it goes on over them; or it gives a move, whose leaf, if it is a leaf's, is one of them; or the batch of the leaf that is wanted is at its end; or
-- the walk is, over columns that records have, whose walk it gave, and nothing comes later; or no records have them
abbrev pub GoesOver : Fields → List (List Step) → List (List Triplet) → ℕ → List Move → Left → LevelWalk → Left → Result Turned AssembleFault → Type 0
GoesOver fs F C rows ms later w here (Ok Turned.Heard) = IsOver fs F C rows ms w here later
GoesOver fs F C rows ms later w here (Ok (Turned.Gave m)) = IsOver fs F C rows (ms ++ move_view m ∷ []) w here later × ((i : ℕ) → leaf_of m ≡ Some i → i < length F)
GoesOver fs F C rows ms later w here (Ok (Turned.Wants i)) = IsOver fs F C rows ms w here later × (w.wanted ≡ Some i) × (here i ≡ [])
GoesOver fs F C rows ms later w here (Ok Turned.Ended) = (R : List record_tree.Node) × HasColumns fs F C rows R × (walk fs F R ≡ ms) × ((i : ℕ) → later i ≡ [])
GoesOver fs F C rows ms later w here (Err AssembleFault.BadData) = NoneHas fs F C rows
GoesOver fs F C rows ms later w here (Err AssembleFault.NoMemory) = ⊤

-- of each batch a front was passed, if anything
abbrev pub Shrinks : Left → Left → Type 0
Shrinks here after = (i : ℕ) → (k : ℕ) × (after i ≡ drop k (here i))

-- a move that is given nests on those before it
abbrev pub NestsOver : Fields → List Leaf → List Move → Result Turned AssembleFault → Type 0
NestsOver fs L ms (Ok (Turned.Gave m)) = is_some (open_after_moves fs L no_record (ms ++ move_view m ∷ [])) ≡ true
NestsOver fs L ms r = ⊤

-- what is said of a call, over any columns over which the walk stood
abbrev pub OverBatches : LevelWalk → Left → List Bool → (Fields → List (List Step) → List (List Triplet) → ℕ → List Move → Left → Type 0) → Type 0
OverBatches w here ended says = (fs : Fields) (F : List (List Step)) (C : List (List Triplet)) (rows : ℕ) (ms : List Move) (later : Left) → list_all (is_leaf_path fs) F ≡ true
    → all_differ F ≡ true → EndsWith ended later → IsOver fs F C rows ms w here later → says fs F C rows ms later

-- what is said of a call to which this comes of the leaf that is wanted, over any columns over which the walk stood
abbrev pub OverComing : LevelWalk → Left → Option Levels → (Fields → List (List Step) → List (List Triplet) → ℕ → List Move → Left → Type 0) → Type 0
OverComing w here more says = (fs : Fields) (F : List (List Step)) (C : List (List Triplet)) (rows : ℕ) (ms : List Move) (later : Left) → list_all (is_leaf_path fs) F ≡ true
    → all_differ F ≡ true → IsOver fs F C rows ms w here later → ComesOf w.wanted here later more → says fs F C rows ms later
