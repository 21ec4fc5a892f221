-- A walk over columns by their levels: where it stands, and what its calls promise.
use Rattle.std.specs.Prelude.{◌≡◌, ◌≢◌, ◌⊎◌, ℕ, zero, suc, ◌+◌, ◌-◌, ◌^◌, ◌<◌, ◌≤◌, min, ⊤, List, [], ◌∷◌, ◌++◌, map, length, Bool, true, false, not, ◌&&◌, ◌==◌, nat_lt, if◌then◌else◌, Option, Some, None, option_map, Result, Ok, Err, is_some}
use Rattle.std.specs.List.{list_all}
use Rattle.dr_meaning.specs.Schema.{Fields, Kind, depth, greatest_depth}
use Rattle.dr_meaning.specs.Path.{Step, Leaf, is_leaf_path}
use Rattle.dr_meaning.specs.Record as record_tree
use Rattle.dr_meaning.specs.Column.{Triplet, column}
use Rattle.dr_meaning.specs.Walk.{Move, enter, value, leave, walk, no_record}
use Rattle.dr_meaning.specs.WalkLaws.{AreLeavesOf, open_after_moves}
use Rattle.dr_nested.specs.Views.{kind_view}
use Rattle.dr_levels.specs.Views.{levels_pair, triplet_levels}
use Rattle.dr_levels.specs.declared.moves.Move.{Move as CodeMove}
use Rattle.dr_levels.specs.declared.triplet.Levels.{Levels}
use Rattle.dr_moves.specs.Course.{course}
use Rattle.dr_moves.specs.Turning.{Stack, between, done, stops, turn}
use Rattle.dr_moves.specs.Leading.{Left, Leads, columns_of, head_of, heads, behind_move}
use Rattle.dr_walk.specs.Seen.{levels_at}
use Rattle.dr_walk.specs.Standing.{Stands, fits}
use Rattle.dr_walk.specs.declared.fault.AssembleFault.{AssembleFault}
use Rattle.dr_walk.specs.declared.level_move.LevelMove.{LevelMove}
use Rattle.dr_walk.specs.declared.level_walk.LevelWalk.{LevelWalk}

-- ---- which records have columns

-- so many records of the schema, with these columns at these leaves
abbrev pub HasColumns : Fields → List (List Step) → List (List Triplet) → ℕ → List record_tree.Node → Type 0
HasColumns fs F C rows R = (list_all (record_tree.is_record fs) R ≡ true) × (length R ≡ rows) × (map (λ (p : List Step). column p R) F ≡ C)

-- there are no such records
abbrev pub NoneHas : Fields → List (List Step) → List (List Triplet) → ℕ → Type 0
NoneHas fs F C rows = (R : List record_tree.Node) → HasColumns fs F C rows R → ⊥

-- what is said of all records that have the columns, at leaves of the schema
abbrev pub OverRecords : Fields → List (List Step) → ℕ → List (List Triplet) → (List record_tree.Node → Type 0) → Type 0
OverRecords fs F rows C says = (R : List record_tree.Node) → list_all (is_leaf_path fs) F ≡ true → HasColumns fs F C rows R → says R

-- what is said of the schema's leaves at these paths
abbrev pub OverLeaves : Fields → List (List Step) → (List Leaf → Type 0) → Type 0
OverLeaves fs F says = (L : List Leaf) → map (λ (l : Leaf). l.path) L ≡ F → AreLeavesOf fs L → says L

-- the walk of the records begins with these moves
abbrev pub WalkBegins : Fields → List (List Step) → List record_tree.Node → List Move → Type 0
WalkBegins fs F R ms = (rest : List Move) × (walk fs F R ≡ ms ++ rest)

-- these are all moves of some records that have the columns
abbrev pub IsWholeWalk : Fields → List (List Step) → ℕ → List (List Triplet) → List Move → Type 0
IsWholeWalk fs F rows C ms = (R : List record_tree.Node) × HasColumns fs F C rows R × (walk fs F R ≡ ms)

-- each of these moves nests on those before it
abbrev pub Nest : Fields → List Leaf → List Move → Type 0
Nest fs L ms = is_some (open_after_moves fs L no_record ms) ≡ true

-- ---- where a walk stands

-- the leaf of so many that is wanted first
abbrev pub first_wanted : ℕ → Option ℕ
first_wanted zero = None
first_wanted (suc n) = Some 0

-- the leaf of so many that is wanted once this one's next triplet was taken: before the first move the next one
abbrev pub wanted_behind : ℕ → ℕ → ℕ → Option ℕ
wanted_behind given n leaf = if (given == 0) && nat_lt (leaf + 1) n then Some (leaf + 1) else None

-- the leaf that is wanted once what was wanted came
abbrev pub then_wanted : ℕ → ℕ → Option ℕ → Option ℕ
then_wanted given n None = None
then_wanted given n (Some leaf) = wanted_behind given n leaf

-- whether a walk knows what comes next of a leaf: of the one that it wants it doesn't, nor before the first move of those behind that one
abbrev pub is_known : Option ℕ → ℕ → ℕ → Bool
is_known None given i = true
is_known (Some j) given i = if given == 0 then nat_lt i j else not (i == j)

-- the triplets that moves give
abbrev pub triplet_count : List Move → ℕ
triplet_count [] = 0
triplet_count (enter k ∷ ms) = triplet_count ms
triplet_count (value i t ∷ ms) = suc (triplet_count ms)
triplet_count (leave k ∷ ms) = triplet_count ms

-- the last of them gives this leaf's triplet
abbrev pub IsOfLeaf : ℕ → Move → Type 0
IsOfLeaf j (enter k) = ⊥
IsOfLeaf j (value i t) = i ≡ j
IsOfLeaf j (leave k) = ⊥

abbrev pub LastGives : ℕ → List Move → Type 0
LastGives j [] = ⊥
LastGives j (m ∷ []) = IsOfLeaf j m
LastGives j (m ∷ n ∷ ms) = LastGives j (n ∷ ms)

-- how many of the first n leaves have levels
abbrev pub count_one : Option (ℕ × ℕ) → ℕ
count_one None = 0
count_one (Some p) = 1

abbrev pub count_some : (ℕ → Option (ℕ × ℕ)) → ℕ → ℕ
count_some ls zero = 0
count_some ls (suc n) = count_one (ls n) + count_some ls n

-- the levels of a leaf's triplet that a walk has taken and not given
abbrev pub pending : LevelWalk → ℕ → Option (ℕ × ℕ)
pending w i = levels_at w.course.heads.items i

-- the levels of the triplet that comes next
abbrev pub next_levels : List Triplet → Option (ℕ × ℕ)
next_levels ts = option_map triplet_levels (head_of ts)

-- a walk over these columns that gave these moves; this is left of each column behind what was given
pub record IsAtLevels (fs : Fields) (F : List (List Step)) (rows : ℕ) (C : List (List Triplet)) (ms : List Move) (left : Left) (w : LevelWalk) : Type 0 where
  pub columns : length C ≡ length F
  pub deep : depth fs ≤ greatest_depth
  pub few : length F < 2 ^ 32
  pub heads : length w.course.heads.items ≡ length F
  pub stack : Stack
  pub leads : Leads (course fs F) (between rows) (columns_of C) ms stack left
  pub stands : Stands (course fs F) w.course stack
  pub known : (i : ℕ) → is_known w.wanted w.given i ≡ true → pending w i ≡ next_levels (left i)
  pub unknown : (i : ℕ) → is_known w.wanted w.given i ≡ false → pending w i ≡ None
  pub wants : (i : ℕ) → w.wanted ≡ Some i → i < length F
  pub asks : (i : ℕ) → w.wanted ≡ Some i → (w.given ≡ 0) ⊎ LastGives i ms
  pub goes_on : w.failed ≡ None
  pub gave : w.given ≡ min (length ms) (2 ^ 64 - 1)
  pub took : w.taken ≡ min (triplet_count ms + count_some (pending w) (length F)) (2 ^ 64 - 1)

-- the leaf that is wanted once what was wanted has come
abbrev pub wanted_then : LevelWalk → Option ℕ
wanted_then w = then_wanted w.given (length w.course.heads.items) w.wanted

-- where a leaf is wanted, the levels of its column's next triplet come, none at its end
abbrev pub ComesNext : Left → Option ℕ → Option Levels → Type 0
ComesNext left None more = more ≡ None
ComesNext left (Some i) more = option_map levels_pair more ≡ next_levels (left i)

-- what is said of a call, over any columns over which the walk stood, where what comes are the levels of their next triplet
abbrev pub OverLevels : LevelWalk → Option Levels → (Fields → List (List Step) → ℕ → List (List Triplet) → List Move → Left → Type 0) → Type 0
OverLevels w more says = (F : List (List Step)) (fs : Fields) (rows : ℕ) (C : List (List Triplet)) (ms : List Move) (left : Left) → IsAtLevels fs F rows C ms left w → ComesNext left w.wanted more → says fs F rows C ms left

-- ---- what a call answers

-- the leaf whose triplet a move gives
abbrev pub leaf_of : CodeMove → Option ℕ
leaf_of (CodeMove.Enter k) = None
leaf_of (CodeMove.Leaf i t) = Some i
leaf_of (CodeMove.Leave k) = None

abbrev pub given_leaf : LevelMove → Option ℕ
given_leaf (LevelMove.Enter k) = None
given_leaf (LevelMove.Leaf i l k) = Some i
given_leaf (LevelMove.Leave k) = None

-- what is wanted after a call, where this was once what was wanted came: a move comes only where nothing was
abbrev pub WantsNext : Option LevelMove → Option ℕ → Option ℕ → Type 0
WantsNext None before after = after ≡ before
WantsNext (Some m) before after = (before ≡ None) × (after ≡ given_leaf m)

-- the move of a leaf's triplet
abbrev pub leaf_moves : ℕ → Option Triplet → List Move
leaf_moves i None = []
leaf_moves i (Some t) = value i t ∷ []

-- the move that it gives, if any, where this is left of each column: a leaf's triplet is its column's next
abbrev pub moves_over : Left → Option LevelMove → List Move
moves_over left None = []
moves_over left (Some (LevelMove.Enter k)) = enter k ∷ []
moves_over left (Some (LevelMove.Leaf i l k)) = leaf_moves i (head_of (left i))
moves_over left (Some (LevelMove.Leave k)) = leave k ∷ []

-- what is left behind moves
abbrev pub behind_moves : List Move → Left → Left
behind_moves [] left = left
behind_moves (m ∷ ms) left = behind_moves ms (behind_move m left)

-- the leaf's next triplet has the levels of the move
abbrev pub HasLevels : Left → Option LevelMove → Type 0
HasLevels left None = ⊤
HasLevels left (Some (LevelMove.Enter k)) = ⊤
HasLevels left (Some (LevelMove.Leaf i l k)) = next_levels (left i) ≡ Some (levels_pair l)
HasLevels left (Some (LevelMove.Leave k)) = ⊤

-- whether a triplet is there, with a value of this kind, or where none is given, with none
abbrev pub fits_next : Option Kind → Option Triplet → Bool
fits_next k None = false
fits_next k (Some t) = fits k t.value

-- whether the leaf's next triplet has the value that the move asks for
abbrev pub is_fit : Left → Option LevelMove → Bool
is_fit left None = true
is_fit left (Some (LevelMove.Enter k)) = true
is_fit left (Some (LevelMove.Leaf i l k)) = fits_next (option_map kind_view k) (head_of (left i))
is_fit left (Some (LevelMove.Leave k)) = true

-- the move that is given, if any, has the value that it asks for, and behind these moves it is the next of the records' walk
abbrev pub IsNextOfWalk : Fields → List (List Step) → List record_tree.Node → List Move → Left → Option LevelMove → Type 0
IsNextOfWalk fs F R ms left m = (is_fit left m ≡ true) × (rest : List Move) × (walk fs F R ≡ (ms ++ moves_over left m) ++ rest)

-- the columns end where all is done
pub record Ends (fs : Fields) (F : List (List Step)) (rows : ℕ) (C : List (List Triplet)) (ms : List Move) (left : Left) : Type 0 where
  pub stack : Stack
  pub leads : Leads (course fs F) (between rows) (columns_of C) ms stack left
  pub all : turn (course fs F) stack (heads left) ≡ done
  pub nothing_left : (i : ℕ) → left i ≡ []

-- they go on as no records' do
pub record Stuck (fs : Fields) (F : List (List Step)) (rows : ℕ) (C : List (List Triplet)) (ms : List Move) (left : Left) : Type 0 where
  pub stack : Stack
  pub leads : Leads (course fs F) (between rows) (columns_of C) ms stack left
  pub why : (turn (course fs F) stack (heads left) ≡ stops) ⊎ ((turn (course fs F) stack (heads left) ≡ done) × ((i : ℕ) × (left i ≢ [])))

-- a move is given, where the value that it asks for is there; else the columns go on as no records' do
pub record Gave (fs : Fields) (F : List (List Step)) (rows : ℕ) (C : List (List Triplet)) (ms : List Move) (left : Left) (w : LevelWalk) (m : LevelMove) : Type 0 where
  pub levels : HasLevels left (Some m)
  pub on : is_fit left (Some m) ≡ true → IsAtLevels fs F rows C (ms ++ moves_over left (Some m)) (behind_moves (moves_over left (Some m)) left) w
  pub unfit : is_fit left (Some m) ≡ false → Stuck fs F rows C ms left

-- where nothing is wanted: the next move, the end, or that there is neither
abbrev pub Goes : Fields → List (List Step) → ℕ → List (List Triplet) → List Move → Left → LevelWalk → Result (Option LevelMove) AssembleFault → Type 0
Goes fs F rows C ms left w (Ok None) = IsAtLevels fs F rows C ms left w × Ends fs F rows C ms left
Goes fs F rows C ms left w (Ok (Some m)) = Gave fs F rows C ms left w m
Goes fs F rows C ms left w (Err AssembleFault.BadData) = Stuck fs F rows C ms left
Goes fs F rows C ms left w (Err AssembleFault.NoMemory) = ⊤

-- where nothing is wanted, over any columns over which the walk stood: the next move, the end, or that there is neither
abbrev pub GoesNext : LevelWalk → LevelWalk → Result (Option LevelMove) AssembleFault → Type 0
GoesNext w w' result = (F : List (List Step)) (fs : Fields) (rows : ℕ) (C : List (List Triplet)) (ms : List Move) (left : Left) → IsAtLevels fs F rows C ms left w
    → w.wanted ≡ None → Goes fs F rows C ms left w' result
