use Rattle.std.proofs.Common.{◌∙◌}
use Rattle.dr_planning.proofs.PlanStepLemmas.{made_more, made_past}
use Rattle.dr_planning.proofs.records.record_items.Goals as goal

pub items-preserved-in-None-record_item : goal.items-preserved-in-None-record_item
items-preserved-in-None-record_item c = made_past c.items.yielded c.in-Some.item c.items.made.items c.items.invariant c.in-None-record_item.ensures

pub items-preserved : goal.items-preserved
items-preserved c = c.in_ok-push-in-Some-record_item.ensures.items
    ∙ made_more c.items.yielded c.in-Some.item c.in-Some-record_item.item c.items.made.items c.items.invariant c.in-Some-record_item.ensures
