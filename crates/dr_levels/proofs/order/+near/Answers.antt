use Rattle.std.proofs.Common.{arith, ap, ◌∙◌, ◌≡◌, ◌<◌, List, length, get_or, map}
use Rattle.dr_nested.specs.declared.shape.Field.{Field}
use Rattle.dr_levels.specs.Orders.{pick_view, picks_at}
use Rattle.dr_levels.proofs.OrderLemmas.{near_next, near_order_of}
use Rattle.dr_levels.proofs.order.+near.Goals as goal

pub add_group_near-fields-preserved : goal.add_group_near-fields-preserved
add_group_near-fields-preserved t c =
    let fs = c.args.fields.now.items in
    let k = c.fields.place in
    let F = map pick_view c.args.picks.now in
    let f = c.field-item.result in
    let more : k < length fs = omega (arith, ap length c.deref-field-items.ensures.value) in
    let here : f ≡ get_or fs k f = c.field-item.is ∙ ap (λ (xs : List Field). get_or xs k f) c.deref-field-items.ensures.value in
    let picks : map pick_view c.deref.result.now ≡ picks_at k F = ap (map pick_view) c.deref.ensures.value ∙ c.in_ok-behind.ensures in
    near_next fs k f F c.fields.order.items (near_order_of f (map pick_view c.deref.result.now)) c.add_unless_repeated.new.order.items more here
    (ap (near_order_of f) picks) c.in_ok-add_unless_repeated.ensures
    ∙ c.fields.invariant
