-- The laws of the course.
use Rattle.std.specs.Prelude.{◌≡◌, ℕ, List, [], ◌++◌, map, length, true, Some, is_some}
use Rattle.std.specs.List.{list_all, slice_get}
use Rattle.dr_meaning.specs.Schema.{Fields}
use Rattle.dr_meaning.specs.Path.{Step, Leaf, is_leaf_path}
use Rattle.dr_meaning.specs.Record.{Node, is_record}
use Rattle.dr_meaning.specs.Column.{column}
use Rattle.dr_meaning.specs.Walk.{Move, walk, no_record}
use Rattle.dr_meaning.specs.WalkLaws.{open_after_moves, AreLeavesOf}
use Rattle.dr_moves.specs.Course.{course}
use Rattle.dr_moves.specs.Turning.{Stack, between, done, stops, turn}
use Rattle.dr_moves.specs.Leading.{Left, Leads, has_columns, heads}
use Rattle.dr_moves.specs.Selection.{all_differ}

-- over the columns of records the turns lead to the end, and give the records' walk, with nothing left of any column
abbrev pub RecordsLeadThrough : Type 0
RecordsLeadThrough = (fs : Fields) (F : List (List Step)) (R : List Node) → list_all (is_leaf_path fs) F ≡ true → list_all (is_record fs) R ≡ true
    → (end : Left) × Leads (course fs F) (between (length R)) (has_columns F R) (walk fs F R) (between 0) end × ((i : ℕ) → end i ≡ [])

-- wherever turns over the columns of records have led, a front of the walk was given; none stops there, and where all is done all was given
abbrev pub RecordsLead : Type 0
RecordsLead = (fs : Fields) (F : List (List Step)) (R : List Node) (ms : List Move) (S : Stack) (left : Left) → list_all (is_leaf_path fs) F ≡ true → list_all (is_record fs) R ≡ true
    → Leads (course fs F) (between (length R)) (has_columns F R) ms S left
    → (rest : List Move) × (walk fs F R ≡ ms ++ rest) × (turn (course fs F) S (heads left) ≡ stops → ⊥) × (turn (course fs F) S (heads left) ≡ done → rest ≡ [])

-- columns that are taken to their ends, where all is done, are those of records, whose walk was given
abbrev pub LedToRecords : Type 0
LedToRecords = (fs : Fields) (F : List (List Step)) (n : ℕ) (C : Left) (ms : List Move) (end : Left) → list_all (is_leaf_path fs) F ≡ true → all_differ F ≡ true
    → Leads (course fs F) (between n) C ms (between 0) end → ((i : ℕ) → end i ≡ [])
    → (R : List Node) × (list_all (is_record fs) R ≡ true) × (length R ≡ n) × (walk fs F R ≡ ms) × ((i : ℕ) (p : List Step) → slice_get F i ≡ Some p → C i ≡ column p R)

-- whatever the columns, each move nests on what is open
abbrev pub MovesNest : Type 0
MovesNest = (fs : Fields) (F : List Leaf) (n : ℕ) (C : Left) (ms : List Move) (S : Stack) (left : Left) → AreLeavesOf fs F → all_differ (map (λ (l : Leaf). l.path) F) ≡ true
    → Leads (course fs (map (λ (l : Leaf). l.path) F)) (between n) C ms S left → is_some (open_after_moves fs F no_record ms) ≡ true

-- and the moves that were given are a front of the walk of so many records
abbrev pub MovesBeginWalk : Type 0
MovesBeginWalk = (fs : Fields) (F : List (List Step)) (n : ℕ) (C : Left) (ms : List Move) (S : Stack) (left : Left) → list_all (is_leaf_path fs) F ≡ true → all_differ F ≡ true
    → Leads (course fs F) (between n) C ms S left → (R : List Node) × (rest : List Move) × (list_all (is_record fs) R ≡ true) × (length R ≡ n) × (walk fs F R ≡ ms ++ rest)
