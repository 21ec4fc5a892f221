use Rattle.std.proofs.Common.{◌≡◌, ◌∙◌, ◌&&◌, ◌*◌, [], ◌∷◌, length, true, refl, ap, ap₂, sym, subst, arith}
use Rattle.dr_nested.specs.SchemaView.{schema_view}
use Rattle.dr_partials.specs.Rewriting.{leaf_query}
use Rattle.dr_partials.specs.Trees.{Tree, of_fan, tablets_of}
use Rattle.dr_plan.specs.Planned.{plan_view}
use Rattle.dr_plan.specs.PlanOf.{IsPlanOf}
use Rattle.dr_reading.specs.Truth.{most_values}
use Rattle.dr_tree.specs.Together.{AreBounded, Together, partials_view}
use Rattle.dr_test_partials.proofs.agreement_tests.gathered_text.Goals as goal

-- a fan of two over two tablets has two leaf servers
two_tablets : length (tablets_of (of_fan 2 2)) ≡ 2
unfolding of_fan
two_tablets = refl

pub gather-requires-clause-tablets : goal.gather-requires-clause-tablets
gather-requires-clause-tablets g c κs within =
    ap length c.in_ok-partials.ensures.items ∙ sym (ap (λ (t : Tree). length (tablets_of t)) c.in_ok-tree.ensures ∙ two_tablets)

pub gather-requires-clause-together : goal.gather-requires-clause-together
gather-requires-clause-together g c κs within =
    let s = schema_view c.args.schema.now in
    let h = c.requires.planned in
    let is : IsPlanOf s h.1 c.args.plan.now = (h.0, h.2, h.3) in
    let first = c.in_ok-first in
    let second = c.in_ok-second in
    let bounds : AreBounded s.fields (leaf_query h.1) (2 * most_values) (partials_view (first.first ∷ second.second ∷ [])) = record {
      partials = ap₂ (λ a b. a && (b && true)) (first.ensures.partial h.1 is) (second.ensures.partial h.1 is);
      bounded = (most_values, most_values, omega arith, first.ensures.bounded, (most_values, 0, omega arith, second.ensures.bounded, tt));
    } in
    subst Together (sym c.in_ok-partials.ensures.items) (record {
      plan = plan_view c.args.plan.now;
      of_plan = (first.ensures.of_plan, (second.ensures.of_plan, tt));
      fields = s.fields;
      query = leaf_query h.1;
      most = 2 * most_values;
      bounds = bounds;
      room = omega arith;
    })
