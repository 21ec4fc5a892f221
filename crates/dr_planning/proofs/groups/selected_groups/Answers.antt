use Rattle.dr_planning.proofs.PlanStepLemmas.{grouped_more}
use Rattle.dr_planning.proofs.groups.selected_groups.Goals as goal

pub items-preserved : goal.items-preserved
items-preserved c =
    grouped_more c.args.keys.now c.items.yielded c.in-Some.item c.items.aggregates.items _ c.items.made.items _ c.in_ok-term.term c.in_ok-term.ensures c.items.invariant
    c.in_ok-push_grouped.ensures.aggregates c.in_ok-push_grouped.ensures.items
