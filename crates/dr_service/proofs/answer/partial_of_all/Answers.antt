use Rattle.std.proofs.Common.{length, sym, ◌∙◌}
use Rattle.std.proofs.lemmas.Result.{IfOk-weaker}
use Rattle.dr_nested.specs.SchemaView.{schema_view}
use Rattle.dr_plan.specs.Planned.{plan_view, planned_query}
use Rattle.dr_plan.specs.PlanOf.{IsPlanOf}
use Rattle.dr_tree.specs.Views.{tree_view}
use Rattle.dr_service.specs.Answering.{growth_with}
use Rattle.dr_service.proofs.AnswerLemmas.{fan_has}
use Rattle.dr_service.proofs.GrowthLemmas.{pieces_are}
use Rattle.dr_service.proofs.answer.partial_of_all.Goals as goal

pub grow-requires-clause-tree : goal.grow-requires-clause-tree
grow-requires-clause-tree g c = fan_has (length c.args.tablets.now) (tree_view c.in_ok-tree.tree) c.requires.some c.in_ok-tree.ensures

pub finish-requires-after_bounds : goal.finish-requires-after_bounds
finish-requires-after_bounds g c κs within =
    let s = schema_view c.args.schema.now in
    let h = c.requires.planned in
    let is : IsPlanOf s h.1 c.args.plan.now = (h.0, h.2, h.3) in
    let grown = c.in_ok-grown.ensures h.1 is in
    (growth_with (plan_view c.args.plan.now) s (tree_view c.in_ok-tree.tree) grown.partials 0, grown.grows)

pub returns-clause-gathered : goal.returns-clause-gathered
returns-clause-gathered g c =
    let s = schema_view c.args.schema.now in
    let p = plan_view c.args.plan.now in
    let tree = tree_view c.in_ok-tree.tree in
    λ q is.
    let grown = c.in_ok-grown.ensures q is in
    IfOk-weaker c.finish.result _ _
    (λ r e. record {
      tree = tree;
      partials = grown.partials;
      scanned = grown.scanned;
      has = fan_has (length c.args.tablets.now) tree c.requires.some c.in_ok-tree.ensures;
      gathers = λ piece k. e (growth_with p s tree grown.partials 0) piece grown.grows (k ∙ sym (pieces_are (planned_query p) 0 grown.partials));
    })
    c.finish.ensures.gathered

pub returns-clause-of_plan : goal.returns-clause-of_plan
returns-clause-of_plan g c =
    let s = schema_view c.args.schema.now in
    let p = plan_view c.args.plan.now in
    let h = c.requires.planned in
    let is : IsPlanOf s h.1 c.args.plan.now = (h.0, h.2, h.3) in
    let grown = c.in_ok-grown.ensures h.1 is in
    IfOk-weaker c.finish.result _ _ (λ r e. e (growth_with p s (tree_view c.in_ok-tree.tree) grown.partials 0) grown.grows) c.finish.ensures.of_plan
