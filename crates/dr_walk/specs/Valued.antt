-- A walk over columns with their values: where it stands, and what its calls promise.
use Rattle.std.specs.Prelude.{◌≡◌, ℕ, ⊤, List, [], ◌∷◌, length, Bool, true, false, Option, Some, None, option_map, get_or, Result, Ok, Err}
use Rattle.dr_meaning.specs.Schema.{Fields}
use Rattle.dr_meaning.specs.Path.{Step}
use Rattle.dr_meaning.specs.Record.{Value}
use Rattle.dr_meaning.specs.Column.{Triplet}
use Rattle.dr_meaning.specs.Walk.{Move}
use Rattle.dr_levels.specs.Views.{triplet_view, move_view, lent_value}
use Rattle.dr_levels.specs.declared.moves.Move.{Move as CodeMove}
use Rattle.dr_levels.specs.declared.triplet.Triplet as code_triplet
use Rattle.dr_levels.specs.declared.triplet.ValueRef.{ValueRef}
use Rattle.dr_levels.specs.declared.triplet.Levels.{Levels}
use Rattle.dr_moves.specs.Leading.{Left, head_of, behind_move}
use Rattle.dr_walk.specs.Walking.{is_known, leaf_of, given_leaf, moves_over, is_fit, IsAtLevels}
use Rattle.dr_walk.specs.declared.fault.AssembleFault.{AssembleFault}
use Rattle.dr_walk.specs.declared.level_move.LevelMove.{LevelMove}
use Rattle.dr_walk.specs.declared.walk.Walk.{Walk}

-- ---- where a walk stands

-- the value of a triplet
abbrev pub meant_value : Option Triplet → Option Value
meant_value None = None
meant_value (Some t) = t.value

-- the value that is kept of a leaf
abbrev pub kept_value : List (Option ValueRef) → ℕ → Option Value
kept_value values i = option_map lent_value (get_or values i None)

-- of each leaf of which a walk knows what comes next the value is kept
abbrev pub IsKept : Option ℕ → ℕ → Left → List (Option ValueRef) → Type 0
IsKept wanted given left values = (i : ℕ) → is_known wanted given i ≡ true → kept_value values i ≡ meant_value (head_of (left i))

-- a walk over these columns that gave these moves; this is left of each column behind what was given
pub record IsAt (fs : Fields) (F : List (List Step)) (rows : ℕ) (C : List (List Triplet)) (ms : List Move) (left : Left) (w : Walk) : Type 0 where
  pub levels : IsAtLevels fs F rows C ms left w.levels
  pub values : length w.values.items ≡ length F
  pub kept : IsKept w.levels.wanted w.levels.given left w.values.items

-- where a leaf is wanted, its column's next triplet comes, none at its end
abbrev pub Comes : Left → Option ℕ → Option code_triplet.Triplet → Type 0
Comes left None more = more ≡ None
Comes left (Some i) more = option_map triplet_view more ≡ head_of (left i)

-- what is said of a call, over any columns over which the walk stood, where what comes is their next triplet
abbrev pub OverColumns : Walk → Option code_triplet.Triplet → (Fields → List (List Step) → ℕ → List (List Triplet) → List Move → Left → Type 0) → Type 0
OverColumns w more says = (F : List (List Step)) (fs : Fields) (rows : ℕ) (C : List (List Triplet)) (ms : List Move) (left : Left) → IsAt fs F rows C ms left w → Comes left w.levels.wanted more → says fs F rows C ms left

-- ---- what a call answers

-- a leaf's triplet of these levels, with this value
abbrev pub given_move : ℕ → Levels → Option ValueRef → CodeMove
given_move i l v = CodeMove.Leaf i (record { repetition = l.repetition; definition = l.definition; value = v })

-- what is wanted after a call, where this was once what was wanted came: a move comes only where nothing was
abbrev pub Wants : Option CodeMove → Option ℕ → Option ℕ → Type 0
Wants None before after = after ≡ before
Wants (Some m) before after = (before ≡ None) × (after ≡ leaf_of m)

-- the move that it gives, if any
abbrev pub moves_of : Option CodeMove → List Move
moves_of None = []
moves_of (Some m) = move_view m ∷ []

-- what is left behind the move
abbrev pub left_behind : Option CodeMove → Left → Left
left_behind None left = left
left_behind (Some m) left = behind_move (move_view m) left

-- ---- a move by levels, with its value

-- the value that it asks for is kept, of whatever kind it is
abbrev pub IsKeptFor : Left → List (Option ValueRef) → Option LevelMove → Type 0
IsKeptFor left values None = ⊤
IsKeptFor left values (Some (LevelMove.Enter k)) = ⊤
IsKeptFor left values (Some (LevelMove.Leaf i l k)) = kept_value values i ≡ meant_value (head_of (left i))
IsKeptFor left values (Some (LevelMove.Leave k)) = ⊤

-- a leaf's triplet is given with this value, where that is one as it has to be
abbrev pub IsGiven : ℕ → Levels → Bool → Option ValueRef → Result (Option CodeMove) AssembleFault → Type 0
IsGiven i l fit v (Ok m) = (fit ≡ true) × (m ≡ Some (given_move i l v))
IsGiven i l fit v (Err e) = fit ≡ false

-- the same move over columns of which this is left, or the value that it asks for isn't there
abbrev pub IsValued : Left → Option LevelMove → Result (Option CodeMove) AssembleFault → Type 0
IsValued left s (Ok m) = (is_fit left s ≡ true) × (moves_over left s ≡ moves_of m)
IsValued left s (Err e) = is_fit left s ≡ false

-- a move where one is, of the same leaf
abbrev pub HasForm : Option LevelMove → Option CodeMove → Type 0
HasForm None None = ⊤
HasForm None (Some m) = ⊥
HasForm (Some s) None = ⊥
HasForm (Some s) (Some m) = given_leaf s ≡ leaf_of m
