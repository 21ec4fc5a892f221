use Rattle.std.proofs.Common.{◌∙◌, ap, ap₂}
use Rattle.std.proofs.lemmas.Result.{IfOk-weaker}
use Rattle.dr_partials.specs.Partials as meant
use Rattle.dr_group.specs.PlanGatherings.{item_gatherings}
use Rattle.dr_group.proofs.PartialLemmas.{gathers_for}
use Rattle.dr_group.proofs.RowPartialLemmas.{objects_of_rows, groups_of_rows}
use Rattle.dr_group.proofs.partial.Partial.of_rows.Goals as goal

pub returns-in-Objects-clause-partial : goal.returns-in-Objects-clause-partial
returns-in-Objects-clause-partial c =
    IfOk-weaker c.empty.result _ _ (λ p h. h ∙ objects_of_rows c.args.rows c.args.plan.now c.in-Objects.field-0 c.in-Objects.field-1 c.in-Objects.is) c.empty.ensures.partial

pub returns-in_ok-of_rows-in-Groups-clause-partial : goal.returns-in_ok-of_rows-in-Groups-clause-partial
returns-in_ok-of_rows-in-Groups-clause-partial c =
    ap meant.grouped c.in_ok-of_rows-in-Groups.ensures.groups
    ∙ groups_of_rows c.args.rows c.args.plan.now c.in-Groups.field-0 c.in-Groups.aggregates c.in-Groups.items c.in_ok-gatherings-in-Groups.gatherings.items c.in-Groups.is
    (c.in_ok-gatherings-in-Groups.ensures ∙ ap₂ item_gatherings c.deref-in-Groups.ensures.value c.deref.ensures.value)

pub returns-in_ok-of_rows-in-Groups-clause-of_plan : goal.returns-in_ok-of_rows-in-Groups-clause-of_plan
returns-in_ok-of_rows-in-Groups-clause-of_plan c =
    gathers_for c.args.plan.now c.in-Groups.field-0 c.in-Groups.aggregates c.in-Groups.items c.in_ok-of_rows-in-Groups.field-0 c.in-Groups.is
    (c.in_ok-of_rows-in-Groups.ensures.gatherings ∙ c.in_ok-gatherings-in-Groups.ensures ∙ ap₂ item_gatherings c.deref-in-Groups.ensures.value c.deref.ensures.value)
