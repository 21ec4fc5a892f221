use Rattle.std.proofs.Common.{arith, ap, ◌∙◌, ◌≡◌, ◌<◌, List, length, get_or, map}
use Rattle.dr_nested.specs.declared.shape.Field.{Field}
use Rattle.dr_levels.specs.Orders.{pick_view, picks_at}
use Rattle.dr_levels.proofs.OrderLemmas.{schema_next, schema_order_of}
use Rattle.dr_levels.proofs.order.+by_schema.Goals as goal

pub add_group_by_schema-fields-preserved : goal.add_group_by_schema-fields-preserved
add_group_by_schema-fields-preserved t c =
    let fs = c.args.fields.now.items in
    let k = c.fields.place in
    let F = map pick_view c.args.picks.now in
    let f = c.field-item.result in
    let more : k < length fs = omega (arith, ap length c.deref-field-items.ensures.value) in
    let here : f ≡ get_or fs k f = c.field-item.is ∙ ap (λ (xs : List Field). get_or xs k f) c.deref-field-items.ensures.value in
    let picks : map pick_view c.deref.result.now ≡ picks_at k F = ap (map pick_view) c.deref.ensures.value ∙ c.in_ok-behind.ensures in
    schema_next fs k f F c.fields.order.items (schema_order_of f (map pick_view c.deref.result.now)) c.add_by_schema.new.order.items more here
    (ap (schema_order_of f) picks) c.in_ok-add_by_schema.ensures
    ∙ c.fields.invariant
