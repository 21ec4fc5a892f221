-- What a pruner stands for: a watched condition, and the numbers of the open branches; and what is told of these by masks.
use Rattle.std.specs.Prelude.{◌≡◌, ℕ, suc, ⊤, List, [], ◌∷◌, ◌++◌, map, None, Bool, reverse}
use Rattle.dr_meaning.specs.Walk.{Move, enter, value, leave}
use Rattle.dr_levels.specs.Branches.{kept_view}
use Rattle.dr_levels.specs.declared.kept.Branch.{Branch}
use Rattle.dr_levels.specs.declared.kept.Kept.{Kept}
use Rattle.dr_moves.specs.Context.{Context}
use Rattle.dr_moves.specs.Condition.{Watch}
use Rattle.dr_kept_laws.specs.MovedContexts.{after_moves}
use Rattle.dr_kept_laws.specs.Telling.{Verdict, kept, dropped, undecided}
use Rattle.dr_kept_laws.specs.Counting.{Numbers, nothing_counted, count_all, numbers_tell}
use Rattle.dr_prune.specs.declared.counts.Counts.{Counts}
use Rattle.dr_prune.specs.declared.pruner.Pruner.{Pruner}

-- what is known of a branch, as it is told
abbrev pub verdict_of : Branch → Verdict
verdict_of Branch.Kept = kept
verdict_of Branch.Dropped = dropped
verdict_of Branch.Undecided = undecided

-- of so many open branches, the outermost first
abbrev pub verdicts_in : ℕ → Kept → List Verdict
verdicts_in n k = map verdict_of (kept_view n k)

-- the numbers
abbrev pub count_view : Counts → Numbers
count_view n = record { depth = n.depth; along = n.along; hit = n.hit; read = n.read }

abbrev pub numbers_of : Pruner → Numbers
numbers_of p = count_view p.counts

-- how many branches are open
abbrev pub open_in : Pruner → ℕ
open_in p = (numbers_of p).depth

-- the condition that is watched, with this test
abbrev pub watch_of : (Context → Bool) → Pruner → Watch
watch_of t p = record { chain = p.chain.items; last = p.last; test = t }

-- a pruner behind these moves: its numbers are what they count, by this test
abbrev pub HasSeen : (Context → Bool) → List Move → Pruner → Type 0
HasSeen t ms p = numbers_of p ≡ (count_all (watch_of t p) nothing_counted ms).numbers

-- where a move reads the condition's last leaf, the test's answer in the context behind the move
abbrev pub IsAnswer : Watch → Context → Move → Bool → Type 0
IsAnswer w c (enter k) b = ⊤
IsAnswer w c (value i t) b = i ≡ w.last → w.test c ≡ b
IsAnswer w c (leave k) b = ⊤

-- the same behind these moves and this one
abbrev pub IsAnswerBehind : Watch → List Move → Move → Bool → Type 0
IsAnswerBehind w ms m b = IsAnswer w (after_moves (λ i. None) (ms ++ m ∷ [])) m b

-- of how many branches is told at a move where so many are open: those behind it, and the one that it leaves
abbrev pub told_count : ℕ → Move → ℕ
told_count n (enter k) = suc n
told_count n (value i t) = n
told_count n (leave k) = n

-- what is told at a move, of the branches that are open behind it and of the one that it leaves
abbrev pub verdicts_at : Pruner → Move → Kept → List Verdict
verdicts_at p m k = verdicts_in (told_count (open_in p) m) k

-- what the numbers tell there, by a test in a context
abbrev pub numbers_told : (Context → Bool) → Context → Pruner → Move → List Verdict
numbers_told t c p m = reverse (numbers_tell (watch_of t p) c m (numbers_of p))

-- what is said of a pruner by a test and the moves behind which it is, where this is the test's answer with the next move
abbrev pub OverSeen : Pruner → Move → Bool → ((Context → Bool) → List Move → Type 0) → Type 0
OverSeen p m b says = (t : Context → Bool) (ms : List Move) → HasSeen t ms p → IsAnswerBehind (watch_of t p) ms m b → says t ms
