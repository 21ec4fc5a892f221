-- What a pruner tells of the open branches at each move: kept, dropped, or undecided yet.
use Rattle.std.specs.Prelude.{ℕ, List, [], ◌∷◌, ◌++◌, map, reverse, Bool, true, false, not, ◌&&◌, ◌==◌, if◌then◌else◌, Option, None, Some}
use Rattle.std.specs.List.{list_any}
use Rattle.dr_meaning.specs.Walk.{Move, enter, value, leave}
use Rattle.dr_kept_laws.specs.Leavings.{Leaving}
use Rattle.dr_moves.specs.Context.{Context, with_value}
use Rattle.dr_moves.specs.Condition.{Watch, rest_below}

-- what is told of one branch
pub data Verdict : Type 0 where
  kept : Verdict
  dropped : Verdict
  undecided : Verdict

-- an open branch: the rest of the chain below it, none off the chain, and whether the condition was true in each of its rows so far
pub record Opened : Type 0 where
  pub rest : Option (List ℕ)
  pub rows : List Bool

-- behind some moves: what was read last of each leaf, and the open branches, the innermost first
pub record Watching : Type 0 where
  pub context : Context
  pub open_ones : List Opened

-- before any move
abbrev pub nothing_read : Watching
nothing_read = record { context = λ i. None; open_ones = [] }

-- the rest of the chain in the innermost branch; where none is open the record is next
abbrev pub chain_in : Watch → List Opened → Option (List ℕ)
chain_in w [] = Some (0 ∷ w.chain)
chain_in w (b ∷ bs) = b.rest

-- a row at each triplet of the condition's last leaf
abbrev pub rows_at : Watch → ℕ → Context → List Bool
rows_at w i c = if i == w.last then w.test c ∷ [] else []

-- a branch with more rows
abbrev pub with_rows : List Bool → Opened → Opened
with_rows rs b = record b { rows = b.rows ++ rs }

-- out of the innermost
abbrev pub without_first : List Opened → List Opened
without_first [] = []
without_first (b ∷ bs) = bs

-- behind one more move
abbrev pub watch_move : Watch → Watching → Move → Watching
watch_move w g (enter k) = record g { open_ones = record { rest = rest_below k (chain_in w g.open_ones); rows = [] } ∷ g.open_ones }
watch_move w g (value i t) = record {
  context = with_value i t.value g.context;
  open_ones = map (with_rows (rows_at w i (with_value i t.value g.context))) g.open_ones;
}
watch_move w g (leave k) = record g { open_ones = without_first g.open_ones }

-- behind some more
abbrev pub watch_moves : Watch → Watching → List Move → Watching
watch_moves w g [] = g
watch_moves w g (m ∷ ms) = watch_moves w (watch_move w g m) ms

-- whether a list is empty
abbrev pub is_nothing : {A : Type 0} → List A → Bool
is_nothing [] = true
is_nothing (x ∷ xs) = false

-- kept where it is off the chain or a row is true; dropped where it is the chain's end and its row was read
abbrev pub verdict_on : Option (List ℕ) → List Bool → Verdict
verdict_on None rows = kept
verdict_on (Some r) rows = if list_any (λ b. b) rows then kept else if is_nothing r && not (is_nothing rows) then dropped else undecided

-- of an open branch
abbrev pub verdict : Opened → Verdict
verdict b = verdict_on b.rest b.rows

-- as it is left: dropped where it is on the chain and no row is true
abbrev pub last_verdict_on : Option (List ℕ) → List Bool → Verdict
last_verdict_on None rows = kept
last_verdict_on (Some r) rows = if list_any (λ b. b) rows then kept else dropped

-- of a branch as it is left
abbrev pub last_verdict : Opened → Verdict
last_verdict b = last_verdict_on b.rest b.rows

-- the branch that is left among the others
abbrev pub verdicts_at_leave : List Opened → List Verdict
verdicts_at_leave [] = []
verdicts_at_leave (b ∷ bs) = last_verdict b ∷ map verdict bs

-- of the branches that are open behind a move, and of the one that it leaves, the innermost first
abbrev pub verdicts_at : Watch → Watching → Move → List Verdict
verdicts_at w g (enter k) = map verdict (watch_move w g (enter k)).open_ones
verdicts_at w g (value i t) = map verdict (watch_move w g (value i t)).open_ones
verdicts_at w g (leave k) = verdicts_at_leave g.open_ones

-- what is told at a move behind others, the outermost branch first
abbrev pub told : Watch → List Move → Move → List Verdict
told w ms m = reverse (verdicts_at w (watch_moves w nothing_read ms) m)

-- ---- what is told of the branches that are left

-- whether that is dropped
abbrev pub is_told_dropped : Verdict → Bool
is_told_dropped kept = false
is_told_dropped dropped = true
is_told_dropped undecided = false

-- of the innermost
abbrev pub first_dropped : List Verdict → Bool
first_dropped [] = false
first_dropped (v ∷ vs) = is_told_dropped v

-- the branch that a move leaves, as it is told
abbrev pub leaving_at : Watch → Watching → Move → List Leaving
leaving_at w g (enter k) = []
leaving_at w g (value i t) = []
leaving_at w g (leave k) = record { number = k; dropped = first_dropped (verdicts_at w g (leave k)) } ∷ []

-- at each Leave of these moves, behind others
abbrev pub leavings_from : Watch → Watching → List Move → List Leaving
leavings_from w g [] = []
leavings_from w g (m ∷ ms) = leaving_at w g m ++ leavings_from w (watch_move w g m) ms

-- at each Leave of moves, from the first on
abbrev pub told_leavings : Watch → List Move → List Leaving
told_leavings w ms = leavings_from w nothing_read ms
