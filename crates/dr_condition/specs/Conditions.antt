-- The condition of a plan, as it is kept: what it watches, and what it has seen.
use Rattle.std.specs.Prelude.{ℕ, ⊤, List, Bool, Option, None, Some, option_map, [], ◌∷◌, ◌++◌}
use Rattle.dr_meaning.specs.Walk.{Move}
use Rattle.dr_levels.specs.declared.triplet.ValueRef.{ValueRef}
use Rattle.dr_prune.specs.PartAnswers.{lasts_of}
use Rattle.dr_prune.specs.Pruning.{open_in}
use Rattle.dr_condition.specs.Parted.{lent_tests, WatchedParts}
use Rattle.dr_condition.specs.Watching.{watch_with, HaveWatched, HoldRead}
use Rattle.dr_condition.specs.declared.condition.Condition.{Condition}
use Rattle.dr_condition.specs.declared.watched.Watched.{Watched}

-- what tests with a pruner watch
abbrev pub watched_parts : Watched → WatchedParts
watched_parts w = watch_with (lent_tests w.tests.items) (lasts_of w.answers) w.pruner

-- tests with a pruner have seen these moves
abbrev pub HasSeen : Watched → List Move → Type 0
HasSeen w ms = HaveWatched (lent_tests w.tests.items) w.answers ms w.pruner

-- what is said of such that have seen some moves, where the slots hold what was read last of each leaf, with the next move
abbrev pub OverSeen : Watched → Move → List (Option ValueRef) → (List Move → Type 0) → Type 0
OverSeen w m slots says = (ms : List Move) → HasSeen w ms → HoldRead slots (ms ++ m ∷ []) → says ms

-- what a condition watches; none where each record is kept whole
abbrev pub watch_in : Condition → Option WatchedParts
watch_in c = option_map watched_parts c.watched

-- where there are such, they have seen these moves
abbrev pub HasWatchedIf : Option Watched → List Move → Type 0
HasWatchedIf None ms = ⊤
HasWatchedIf (Some w) ms = HasSeen w ms

-- a condition has seen these moves
abbrev pub HasWatched : Condition → List Move → Type 0
HasWatched c ms = HasWatchedIf c.watched ms

-- what is said of a condition that has seen some moves, where the slots hold what was read last of each leaf, with the next move
abbrev pub OverWatched : Condition → Move → List (Option ValueRef) → (List Move → Type 0) → Type 0
OverWatched c m slots says = (ms : List Move) → HasWatched c ms → HoldRead slots (ms ++ m ∷ []) → says ms

-- how many branches are open
abbrev pub open_if : Option Watched → ℕ
open_if None = 0
open_if (Some w) = open_in w.pruner

-- for a condition
abbrev pub open_for : Condition → ℕ
open_for c = open_if c.watched

-- whether a condition refused a move
abbrev pub failed_for : Condition → Bool
failed_for c = c.failed
