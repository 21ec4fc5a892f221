-- The tests of a plan as parts: each is tested where the last of its own leaves is read; those that read no leaf are settled at the start.
use Rattle.std.specs.Prelude.{ℕ, zero, suc, List, [], ◌∷◌, map, filter, Bool, false, ◌||◌, Option, None, is_some}
use Rattle.std.specs.List.{list_all, filter_map}
use denote.Ref.{Bor}
use Rattle.dr_meaning.specs.Expression.{is_true}
use Rattle.dr_moves.specs.Context.{Context}
use Rattle.dr_moves.specs.Condition.{Watch}
use Rattle.dr_kept_laws.specs.Parts.{Part, all_tests}
use Rattle.dr_plan.specs.declared.expression.Truth.{Truth}
use Rattle.dr_prune.specs.PartAnswers.{untested}
use Rattle.dr_scalar.specs.Leaves.{greatest, truth_leaves}
use Rattle.dr_scalar.specs.OverSlots.{truth_over}

-- ---- those that read a leaf, and the others

-- the last leaf that a test reads
abbrev pub last_read : Truth → Option ℕ
last_read t = greatest (truth_leaves t)

-- whether it reads one
abbrev pub reads_leaf : Truth → Bool
reads_leaf t = is_some (last_read t)

-- those of some tests that read a leaf
abbrev pub reading : List Truth → List Truth
reading ts = filter reads_leaf ts

-- the last leaf of each of these
abbrev pub lasts_read : List Truth → List ℕ
lasts_read ts = filter_map last_read ts

-- whether a test is true wherever it is tested, or has to be tested
abbrev pub may_hold : Truth → Bool
may_hold t = reads_leaf t || is_true (truth_over (λ i. None) t)

-- whether those that read no leaf are true
abbrev pub constants_hold : List Truth → Bool
constants_hold ts = list_all may_hold ts

-- ---- parts

-- what is lent
abbrev pub lent_tests : List (Bor Truth) → List Truth
lent_tests ts = map (λ (t : Bor Truth). t.now) ts

-- whether the test of a number is true in a context
abbrev pub test_at : List Truth → ℕ → Context → Bool
test_at [] k = λ c. false
test_at (t ∷ ts) zero = λ c. is_true (truth_over c t)
test_at (t ∷ ts) (suc k) = test_at ts k

-- a condition that is watched in parts: as it is watched, and its parts before any move
pub record WatchedParts : Type 0 where
  pub watch : Watch
  pub parts : List Part

-- with this chain, of whose leaves this is the last: tests, each with its own last leaf
abbrev pub watch_parts : List ℕ → ℕ → List Truth → List ℕ → WatchedParts
watch_parts chain last ts ls = record {
  watch = record { chain = chain; last = last; test = all_tests (untested (test_at ts) ls) };
  parts = untested (test_at ts) ls;
}
