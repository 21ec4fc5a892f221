use Rattle.std.proofs.Common.{◌-◌, take, length}
use Rattle.dr_meaning.specs.Query.{Query}
use Rattle.dr_nested.specs.SchemaView.{schema_view}
use Rattle.dr_plan.specs.PlanOf.{IsPlanOf}
use Rattle.dr_tree.specs.Views.{tree_view}
use Rattle.dr_service.specs.Answering.{HasGrownOf}
use Rattle.dr_service.proofs.answer.grow.Given as goal

-- it has grown of the tablets so far
abbrev pub invariant-tablets : goal.invariant-tablets
invariant-tablets g l = (q : Query) → IsPlanOf (schema_view l.schema) q l.plan
    → HasGrownOf (schema_view l.schema) q l.plan (tree_view l.tree) (take l.number l.tablets) (length l.tablets - l.number) l.growing
