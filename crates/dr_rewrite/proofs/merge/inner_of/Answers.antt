use Rattle.std.proofs.Common.{ap₂, ◌∙◌}
use Rattle.dr_rewrite.specs.ServerItems.{server_items}
use Rattle.dr_rewrite.proofs.MergePlanLemmas.{inner_listed, inner_placed, inner_right, is_merging}
use Rattle.dr_rewrite.proofs.merge.inner_of.Goals as goal

pub merging_plan-requires : goal.merging_plan-requires
merging_plan-requires c =
    inner_placed c.in-Groups.keys.items c.in-Groups.aggregates.items _ _ _ _ c.in_ok-items-in-Groups.items.items
    c.deref-in-Groups-3.ensures.value c.deref-in-Groups-4.ensures.value c.deref.ensures.value c.deref-in-Groups.ensures.value c.in_ok-items-in-Groups.ensures

pub returns-in-Objects-clause-query : goal.returns-in-Objects-clause-query
returns-in-Objects-clause-query c = inner_listed c.args.plan.now c.in-Objects.field-0 c.in-Objects.field-1 c.in-Objects.is

pub returns-in_ok-merging-in-Groups-clause-query : goal.returns-in_ok-merging-in-Groups-clause-query
returns-in_ok-merging-in-Groups-clause-query c =
    let g = c.in-Groups in
    let items = c.in_ok-items-in-Groups.items in
    let m = c.in_ok-merging-in-Groups in
    inner_right c.args.plan.now m.merging g.keys g.aggregates g.field-2 items g.is
    (c.in_ok-items-in-Groups.ensures ∙ ap₂ server_items c.deref.ensures.value c.deref-in-Groups.ensures.value)
    (is_merging c.args.plan.now g.keys g.aggregates items m.merging _ _ _ c.deref-in-Groups-2.ensures.value c.deref-in-Groups-3.ensures.value c.deref-in-Groups-4.ensures.value
    m.ensures.leaves m.ensures.tests m.ensures.selects)
