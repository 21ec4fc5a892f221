use Rattle.std.proofs.Common.{rules, arith}
use Rattle.dr_nested.specs.SchemaView.{schema_view}
use Rattle.dr_plan.specs.PlanOf.{IsPlanOf}
use Rattle.dr_plan.specs.Planned.{plan_view}
use Rattle.dr_tree.specs.Views.{tree_view}
use Rattle.dr_test_partials.proofs.AddedLemmas.{nothing_has_grown, can_add, flags_length, growth_by, one_more, partial_of_plan}
use Rattle.dr_test_partials.proofs.growing_tests.grown.Goals as goal

pub order-init : goal.order-init
order-init g c =
    let fs = (schema_view c.args.schema.now).fields in
    nothing_has_grown (plan_view c.args.plan.now) fs (tree_view c.args.tree.now) _ _ c.requires.tablets c.in_ok-has_piece.ensures.items (c.in_ok-growing.ensures fs)

pub add-requires : goal.add-requires
add-requires g c =
    let s = schema_view c.args.schema.now in
    let h = c.requires.planned in
    let is : IsPlanOf s h.1 c.args.plan.now = (h.0, h.2, h.3) in
    let has = c.order.invariant in
    let place = c.if-place-len.false in
    let many = flags_length _ _ _ _ _ has in (
      growth_by (plan_view c.args.plan.now) s.fields (tree_view c.args.tree.now) has.pieces,
      has.grows,
      can_add _ _ _ _ _ has _ (omega (arith, place, many)) (search rules) _ c.in_ok-partial.ensures.of_plan
          (partial_of_plan s.fields h.1 (plan_view c.args.plan.now) _ h.3 (c.in_ok-partial.ensures.partial h.1 is)) c.in_ok-partial.ensures.bounded,
    )

pub order-preserved : goal.order-preserved
order-preserved g c =
    let s = schema_view c.args.schema.now in
    let h = c.requires.planned in
    let is : IsPlanOf s h.1 c.args.plan.now = (h.0, h.2, h.3) in
    let has = c.order.invariant in
    let place = c.if-place-len.false in
    let many = flags_length _ _ _ _ _ has in
    one_more _ _ _ _ _ has _ (omega (arith, place, many)) (search rules) _ _ c.in_ok-partial.ensures.bounded
    (c.in_ok-add.ensures.added (growth_by (plan_view c.args.plan.now) s.fields (tree_view c.args.tree.now) has.pieces) has.grows
    (can_add _ _ _ _ _ has _ (omega (arith, place, many)) (search rules) _ c.in_ok-partial.ensures.of_plan
    (partial_of_plan s.fields h.1 (plan_view c.args.plan.now) _ h.3 (c.in_ok-partial.ensures.partial h.1 is)) c.in_ok-partial.ensures.bounded))

pub returns : goal.returns
returns g c =
    let has = c.order.invariant in
    (growth_by (plan_view c.args.plan.now) (schema_view c.args.schema.now).fields (tree_view c.args.tree.now) has.pieces, has.grows)
