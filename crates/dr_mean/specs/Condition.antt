-- The condition of a plan.
use Rattle.std.specs.Prelude.{List, map, Option}
use Rattle.dr_meaning.specs.Record.{Node}
use Rattle.dr_meaning.specs.Expression.{Expression}
use Rattle.dr_meaning.specs.Kept.{kept}
use Rattle.dr_plan.specs.Conjuncts.{all_of}
use Rattle.dr_plan.specs.Planned.{plan_leaves}
use Rattle.dr_plan.specs.Views.{truth_view}
use Rattle.dr_plan.specs.declared.plan.Plan.{Plan}

-- the expressions all of which must be true
abbrev pub plan_tests : Plan → List Expression
plan_tests p = map (truth_view (plan_leaves p)) p.test.items

-- what the condition leaves of a record
abbrev pub plan_kept : Plan → Node → Option Node
plan_kept p n = kept (all_of (plan_tests p)) n
