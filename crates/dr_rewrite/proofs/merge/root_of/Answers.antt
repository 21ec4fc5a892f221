use Rattle.std.proofs.Common.{ap, map, ◌∙◌}
use Rattle.dr_rewrite.specs.ServerItems.{titled}
use Rattle.dr_rewrite.proofs.MergePlanLemmas.{is_merging, root_listed, root_placed, root_right}
use Rattle.dr_rewrite.proofs.merge.root_of.Goals as goal

pub merging_plan-requires : goal.merging_plan-requires
merging_plan-requires c =
    let g = c.in-Groups in
    root_placed c.args.plan.now g.keys g.aggregates g.items _ _ c.in_ok-items-in-Groups.items.items g.is
    c.deref-in-Groups-2.ensures.value c.deref-in-Groups-3.ensures.value (c.in_ok-items-in-Groups.ensures ∙ ap (map titled) c.deref.ensures.value)

pub returns-in-Objects-clause-query : goal.returns-in-Objects-clause-query
returns-in-Objects-clause-query c = root_listed c.args.plan.now c.in-Objects.field-0 c.in-Objects.field-1 c.in-Objects.is

pub returns-in_ok-merging-in-Groups-clause-query : goal.returns-in_ok-merging-in-Groups-clause-query
returns-in_ok-merging-in-Groups-clause-query c =
    let g = c.in-Groups in
    let items = c.in_ok-items-in-Groups.items in
    let m = c.in_ok-merging-in-Groups in
    root_right c.args.plan.now m.merging g.keys g.aggregates g.items items g.is
    (c.in_ok-items-in-Groups.ensures ∙ ap (map titled) c.deref.ensures.value)
    (is_merging c.args.plan.now g.keys g.aggregates items m.merging _ _ _ c.deref-in-Groups.ensures.value c.deref-in-Groups-2.ensures.value c.deref-in-Groups-3.ensures.value
    m.ensures.leaves m.ensures.tests m.ensures.selects)
