-- The condition of a plan: what of its tests is watched.
use Rattle.std.specs.Prelude.{◌≡◌, ℕ, [], Bool, true, false, Option, None, Some}
use Rattle.std.specs.List.{slice_get}
use Rattle.dr_meaning.specs.Schema.{Schema}
use Rattle.dr_meaning.specs.Path.{Leaf}
use Rattle.dr_kept_laws.specs.ChainNumbers.{chain_numbers}
use Rattle.dr_plan.specs.Planned.{plan_leaves}
use Rattle.dr_plan.specs.declared.plan.Plan.{Plan}
use Rattle.dr_scalar.specs.Leaves.{greatest, tests_leaves}
use Rattle.dr_condition.specs.Parted.{reading, lasts_read, constants_hold, WatchedParts, watch_parts}
use Rattle.dr_condition.specs.Conditions.{watch_in, HasWatched}
use Rattle.dr_condition.specs.declared.condition.Condition.{Condition}

-- the last leaf that a plan's tests read
abbrev pub last_of_plan : Plan → Option ℕ
last_of_plan p = greatest (tests_leaves p.test.items)

-- whether those of a plan's tests that read no leaf are true
abbrev pub plan_constants_hold : Plan → Bool
plan_constants_hold p = constants_hold p.test.items

-- what is watched is the plan's condition, by those of its tests that read a leaf; nothing where none does. The others are true
abbrev pub WatchesPlan : Schema → Plan → Option WatchedParts → Type 0
WatchesPlan s p None = (last_of_plan p ≡ None) × (plan_constants_hold p ≡ true)
WatchesPlan s p (Some w) = (last_of_plan p ≡ Some w.watch.last) × (plan_constants_hold p ≡ true)
    × (w ≡ watch_parts w.watch.chain w.watch.last (reading p.test.items) (lasts_read p.test.items))
    × ((l : Leaf) → slice_get (plan_leaves p) w.watch.last ≡ Some l → w.watch.chain ≡ chain_numbers s.fields l.path)

-- the condition of a plan; none where a test that reads no leaf isn't true
abbrev pub IsConditionOf : Schema → Plan → Option Condition → Type 0
IsConditionOf s p None = plan_constants_hold p ≡ false
IsConditionOf s p (Some c) = WatchesPlan s p (watch_in c) × HasWatched c []
