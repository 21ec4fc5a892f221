-- A pruner in three numbers and the count of open branches: a true row hits all open branches on the chain, and these are the outermost ones.
use Rattle.std.specs.Prelude.{◌≡◌, ℕ, zero, suc, ◌-◌, List, [], ◌∷◌, length, reverse, min, drop, Bool, true, false, ◌&&◌, ◌||◌, ◌==◌, nat_le, nat_lt, if◌then◌else◌}
use Rattle.dr_meaning.specs.Walk.{Move, enter, value, leave}
use Rattle.dr_kept_laws.specs.Telling.{Verdict, kept, dropped, undecided, nothing_read, told}
use Rattle.dr_moves.specs.Context.{Context, with_value}
use Rattle.dr_moves.specs.Condition.{Watch}

-- how many branches are open; so many of them, the outermost, are on the chain; so many of these, the outermost, have a true row; and whether the
-- innermost on the chain has a row
pub record Numbers : Type 0 where
  pub depth : ℕ
  pub along : ℕ
  pub hit : ℕ
  pub read : Bool

-- where nothing is open
abbrev pub no_numbers : Numbers
no_numbers = record { depth = 0; along = 0; hit = 0; read = false }

-- the record's number before those of the chain
abbrev pub whole_chain : Watch → List ℕ
whole_chain w = 0 ∷ w.chain

-- whether a chain goes on with this number
abbrev pub is_first : ℕ → List ℕ → Bool
is_first k [] = false
is_first k (j ∷ r) = k == j

-- into the chain's next field, or into another
abbrev pub count_entered : Bool → Numbers → Numbers
count_entered true n = record { depth = suc n.depth; along = suc n.along; hit = n.hit; read = false }
count_entered false n = record n { depth = suc n.depth }

-- a row
abbrev pub count_row : Bool → Numbers → Numbers
count_row true n = record n { hit = n.along; read = true }
count_row false n = record n { read = true }

-- out of the innermost, which is on the chain or not
abbrev pub count_left : Bool → Numbers → Numbers
count_left true n = record { depth = n.depth - 1; along = n.along - 1; hit = min n.hit (n.along - 1); read = false }
count_left false n = record n { depth = n.depth - 1 }

-- the context is that behind the move
abbrev pub count_move : Watch → Context → Move → Numbers → Numbers
count_move w c (enter k) n = count_entered ((n.along == n.depth) && is_first k (drop n.along (whole_chain w))) n
count_move w c (value i t) n = if i == w.last then count_row (w.test c) n else n
count_move w c (leave k) n = count_left (n.along == n.depth) n

-- ---- what the numbers tell

-- of the open branch at this place, the outermost first; on the chain's end, where this is so long, a row that was read and isn't true drops it
abbrev pub verdict_at : ℕ → Numbers → ℕ → Verdict
verdict_at long n i = if nat_le n.along i || nat_lt i n.hit then kept else if (suc i == long) && n.read then dropped else undecided

-- of the branch that is left
abbrev pub verdict_left : Numbers → ℕ → Verdict
verdict_left n i = if nat_le n.along i || nat_lt i n.hit then kept else dropped

-- of the outermost so many, the innermost of them first
abbrev pub verdicts_of : ℕ → Numbers → ℕ → List Verdict
verdicts_of long n zero = []
verdicts_of long n (suc i) = verdict_at long n i ∷ verdicts_of long n i

-- of the branch that is left and the others
abbrev pub left_among : ℕ → Numbers → ℕ → List Verdict
left_among long n zero = []
left_among long n (suc i) = verdict_left n i ∷ verdicts_of long n i

-- at a move behind these numbers
abbrev pub numbers_tell : Watch → Context → Move → Numbers → List Verdict
numbers_tell w c (enter k) n = verdicts_of (length (whole_chain w)) (count_move w c (enter k) n) (suc n.depth)
numbers_tell w c (value i t) n = verdicts_of (length (whole_chain w)) (count_move w c (value i t) n) n.depth
numbers_tell w c (leave k) n = left_among (length (whole_chain w)) n n.depth

-- the context behind a move
abbrev pub context_behind : Context → Move → Context
context_behind c (enter k) = c
context_behind c (value i t) = with_value i t.value c
context_behind c (leave k) = c

-- behind some moves: what was read last of each leaf, and the numbers
pub record Counted : Type 0 where
  pub context : Context
  pub numbers : Numbers

-- before any move
abbrev pub nothing_counted : Counted
nothing_counted = record { context = nothing_read.context; numbers = no_numbers }

-- behind one more move
abbrev pub count_on : Watch → Counted → Move → Counted
count_on w g m = record { context = context_behind g.context m; numbers = count_move w (context_behind g.context m) m g.numbers }

-- behind some more
abbrev pub count_all : Watch → Counted → List Move → Counted
count_all w g [] = g
count_all w g (m ∷ ms) = count_all w (count_on w g m) ms

-- what they tell at the next move, the outermost branch first
abbrev pub counted_tell : Watch → Counted → Move → List Verdict
counted_tell w g m = reverse (numbers_tell w (context_behind g.context m) m g.numbers)

-- the numbers tell what is told, whatever the moves
abbrev pub NumbersTell : Type 0
NumbersTell = (w : Watch) (ms : List Move) (m : Move) → counted_tell w (count_all w nothing_counted ms) m ≡ told w ms m
