-- A condition without leaves is the same in each row, and its row is read as the record is entered.
use Rattle.std.specs.Prelude.{◌≡◌, ℕ, zero, suc, ◌-◌, List, [], ◌∷◌, ◌++◌, reverse, Bool, true, if◌then◌else◌}
use Rattle.std.specs.List.{flat_map, list_all}
use Rattle.dr_meaning.specs.Schema.{Fields}
use Rattle.dr_meaning.specs.Path.{Step}
use Rattle.dr_meaning.specs.Record.{Node, is_record}
use Rattle.dr_meaning.specs.Walk.{Move, enter, value, leave, walk}
use Rattle.dr_kept_laws.specs.Leavings.{Leaving, record_leavings}
use Rattle.dr_kept_laws.specs.Telling.{Verdict, kept, dropped, first_dropped}

-- so many that are kept
abbrev pub all_kept : ℕ → List Verdict
all_kept zero = []
all_kept (suc n) = kept ∷ all_kept n

-- of so many open branches, the outermost first: the record is kept or dropped, what is in it is kept
abbrev pub constant_verdicts : Bool → ℕ → List Verdict
constant_verdicts b zero = []
constant_verdicts b (suc n) = (if b then kept else dropped) ∷ all_kept n

-- how many branches are open behind a move
abbrev pub depth_behind : ℕ → Move → ℕ
depth_behind n (enter k) = suc n
depth_behind n (value i t) = n
depth_behind n (leave k) = n - 1

-- behind some moves
abbrev pub depth_behind_all : ℕ → List Move → ℕ
depth_behind_all n [] = n
depth_behind_all n (m ∷ ms) = depth_behind_all (depth_behind n m) ms

-- what is told at a move where so many are open: of those behind it, and of the one that it leaves
abbrev pub constant_at : Bool → ℕ → Move → List Verdict
constant_at b n (enter k) = constant_verdicts b (suc n)
constant_at b n (value i t) = constant_verdicts b n
constant_at b n (leave k) = constant_verdicts b n

-- what is told at a move behind others
abbrev pub constant_told : Bool → List Move → Move → List Verdict
constant_told b ms m = constant_at b (depth_behind_all 0 ms) m

-- the branch that a move leaves, as it is told
abbrev pub constant_leaving : Bool → ℕ → Move → List Leaving
constant_leaving b n (enter k) = []
constant_leaving b n (value i t) = []
constant_leaving b n (leave k) = record { number = k; dropped = first_dropped (reverse (constant_at b n (leave k))) } ∷ []

-- at each Leave of these moves
abbrev pub constant_leavings : Bool → ℕ → List Move → List Leaving
constant_leavings b n [] = []
constant_leavings b n (m ∷ ms) = constant_leaving b n m ++ constant_leavings b (depth_behind n m) ms

-- what is told at each Leave of a walk is what the query keeps
abbrev pub ConstantIsKept : Type 0
ConstantIsKept = (fs : Fields) (F : List (List Step)) (b : Bool) (R : List Node) → list_all (is_record fs) R ≡ true
    → constant_leavings b 0 (walk fs F R) ≡ flat_map (record_leavings fs F [] (λ row. b)) R
