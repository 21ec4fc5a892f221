-- The condition of a plan along a walk: the condition that is watched in parts, and what is told of the open branches.
use Rattle.std.specs.Prelude.{◌≡◌, ℕ, zero, suc, ⊤, List, reverse, Bool, true, false, Option, None, Some}
use Rattle.std.specs.List.{list_all}
use denote.Ref.{Bor}
use Rattle.dr_meaning.specs.Walk.{Move, enter, value, leave}
use Rattle.dr_levels.specs.Branches.{branch_at}
use Rattle.dr_levels.specs.declared.kept.Kept.{Kept}
use Rattle.dr_levels.specs.declared.triplet.ValueRef.{ValueRef}
use Rattle.dr_kept_laws.specs.Telling.{Verdict, kept, dropped, undecided, first_dropped, is_told_dropped}
use Rattle.dr_kept_laws.specs.Parts.{all_tests, Pruning, nothing_pruned, prune_moves, pruning_tells}
use Rattle.dr_kept_laws.specs.MovedContexts.{after_moves}
use Rattle.dr_plan.specs.declared.expression.Truth.{Truth}
use Rattle.dr_prune.specs.PartAnswers.{lasts_of, untested, HasAnswered, HasPruned}
use Rattle.dr_prune.specs.Pruning.{verdict_of, watch_of}
use Rattle.dr_scalar.specs.Slots.{slot_value}
use Rattle.dr_prune.specs.declared.answers.Answers.{Answers}
use Rattle.dr_prune.specs.declared.pruner.Pruner.{Pruner}
use Rattle.dr_condition.specs.Parted.{test_at, WatchedParts, lent_tests}

-- what a pruner watches, with tests of these last leaves
abbrev pub watch_with : List Truth → List ℕ → Pruner → WatchedParts
watch_with ts ls p = record { watch = watch_of (all_tests (untested (test_at ts) ls)) p; parts = untested (test_at ts) ls }

-- tests, of which these are the answers, and a pruner that goes by them have seen these moves
pub record HaveWatched (ts : List Truth) (a : Answers) (ms : List Move) (p : Pruner) : Type 0 where
  pub answered : HasAnswered (test_at ts) ms a
  pub pruned : HasPruned (all_tests (untested (test_at ts) (lasts_of a))) (test_at ts) (lasts_of a) ms p

-- the slots hold what was read last of each leaf by these moves
abbrev pub HoldRead : List (Option ValueRef) → List Move → Type 0
HoldRead slots ms = after_moves (λ i. None) ms ≡ slot_value slots

-- these are the answers of tests by these moves
abbrev pub HaveTested : List (Bor Truth) → List Move → Answers → Type 0
HaveTested tests ms a = HasAnswered (test_at (lent_tests tests)) ms a

-- ---- what is told

-- behind these moves
abbrev pub pruned_behind : WatchedParts → List Move → Pruning
pruned_behind w ms = prune_moves w.watch (nothing_pruned w.parts) ms

-- at a move behind them, of the innermost branch first
abbrev pub told_inside : WatchedParts → List Move → Move → List Verdict
told_inside w ms m = reverse (pruning_tells w.watch (pruned_behind w ms) m)

-- whether the branch that a move leaves is dropped, behind others
abbrev pub left_dropped : Option WatchedParts → List Move → ℕ → Bool
left_dropped None ms k = false
left_dropped (Some w) ms k = first_dropped (told_inside w ms (leave k))

abbrev pub dropped_at : Option WatchedParts → List Move → Move → Bool
dropped_at W ms (enter k) = false
dropped_at W ms (value i t) = false
dropped_at W ms (leave k) = left_dropped W ms k

abbrev pub is_settled : Verdict → Bool
is_settled kept = true
is_settled dropped = false
is_settled undecided = false

-- by the masks
abbrev pub innermost_dropped : Move → ℕ → Kept → Bool
innermost_dropped (enter k) n m = false
innermost_dropped (value i t) n m = false
innermost_dropped (leave k) zero m = false
innermost_dropped (leave k) (suc n) m = is_told_dropped (verdict_of (branch_at m n))

-- where each open branch is told to be kept, so it is; and where a move leaves a branch that is told dropped
abbrev pub TellsKept : Option WatchedParts → List Move → Move → Bool → Type 0
TellsKept None ms m is_kept = ⊤
TellsKept (Some w) ms m is_kept = is_kept ≡ true → list_all is_settled (told_inside w ms m) ≡ true
