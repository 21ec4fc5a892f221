use Rattle.std.proofs.Common.{sym, ap, subst, ◌∙◌}
use Rattle.dr_plan.specs.Planned.{plan_leaves, plan_view}
use Rattle.dr_condition.specs.PlanConditions.{WatchesPlan}
use Rattle.dr_within.specs.Takings.{takings_of}
use Rattle.dr_within.proofs.plan_scan.PlanScan.step.Goals as goal

pub returns-in-Ok-clause-scans : goal.returns-in-Ok-clause-scans
returns-in-Ok-clause-scans c = λ s p ms g r of. record {
  keys = g.keys;
  aggregates = g.aggregates;
  items = g.items;
  selects = g.selects;
  keyed = ap (λ k. k.now) c.step.ensures.keys ∙ g.keyed;
  watches = subst (WatchesPlan s p) (sym c.step.ensures.watches) g.watches;
  behind = c.in-Ok.ensures.behind (plan_view p) (plan_leaves p) (takings_of g.aggregates.items) ms g.behind r of;
}
