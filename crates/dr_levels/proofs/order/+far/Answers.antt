use Rattle.std.proofs.Common.{arith, ap, ◌∙◌, ◌≡◌, ◌<◌, List, length, get_or, map, ◌++◌, append_assoc, ap₂, ℕ}
use Rattle.dr_nested.specs.declared.shape.Field.{Field}
use Rattle.dr_meaning.specs.Automaton.{Pick, where_repeated, shape_near_order, shape_far_order}
use Rattle.dr_nested.specs.Views.{rep_view, shape_view}
use Rattle.dr_levels.specs.Orders.{pick_view, picks_at}
use Rattle.dr_levels.proofs.OrderLemmas.{far_next}
use Rattle.dr_levels.proofs.order.+far.Goals as goal

pub add_group_far-fields-preserved : goal.add_group_far-fields-preserved
add_group_far-fields-preserved t c =
    let fs = c.args.fields.now.items in
    let k = c.fields.place in
    let F = map pick_view c.args.picks.now in
    let f = c.field-item.result in
    let more : k < length fs = omega (arith, ap length c.deref-field-items.ensures.value) in
    let here : f ≡ get_or fs k f = c.field-item.is ∙ ap (λ (xs : List Field). get_or xs k f) c.deref-field-items.ensures.value in
    let picks_in : map pick_view c.deref-in-fields.result.now ≡ picks_at k F = ap (map pick_view) c.deref-in-fields.ensures.value ∙ c.in_ok-behind.ensures in
    let picks : map pick_view c.deref.result.now ≡ picks_at k F = ap (map pick_view) c.deref.ensures.value ∙ c.in_ok-behind.ensures in
    let near = where_repeated (rep_view f.rep) (shape_near_order (shape_view f.shape) (map pick_view c.deref.result.now)) in
    let far = shape_far_order (shape_view f.shape) (map pick_view c.deref-in-fields.result.now) in
    far_next fs k f F c.fields.order.items (near ++ far) c.add_far.new.order.items more here
    (ap₂ (λ (xs ys : List ℕ). xs ++ ys)
    (ap (λ (G : List Pick). where_repeated (rep_view f.rep) (shape_near_order (shape_view f.shape) G)) picks)
    (ap (shape_far_order (shape_view f.shape)) picks_in))
    (c.in_ok-add_far.ensures ∙ ap (λ (xs : List ℕ). xs ++ far) c.in_ok-add_where_repeated.ensures ∙ append_assoc c.fields.order.items near far)
    ∙ c.fields.invariant
