use Rattle.std.proofs.Common.{◌≡◌, ◌<◌, ◌+◌, ℕ, List, [], length, get_or, drop, ap, sym, ◌∙◌, arith}
use Rattle.std.proofs.lemmas.Result.{on_ok_weaker}
use Rattle.dr_meaning.specs.Automaton.{Pick}
use Rattle.dr_nested.specs.declared.shape.Rep.{Rep}
use Rattle.dr_nested.specs.declared.shape.Field.{Field}
use Rattle.dr_nested.specs.Views.{rep_view, shape_view, fields_view}
use Rattle.dr_levels.specs.Orders.{picks_at}
use Rattle.dr_levels.proofs.OrderLemmas.{shifted}
use Rattle.dr_moves.specs.Course.{far_items, shape_near_items, shape_far_items}
use Rattle.dr_walk.specs.Laying.{Level, lay, laying}
use Rattle.dr_walk.specs.Views.{picks_view, gates_view, level_view, items_view}
use Rattle.dr_walk.specs.Flat.{far_of_field}
use Rattle.dr_walk.proofs.FieldLemmas.{depth_at, count_from, far_next, far_of, fields_in}
use Rattle.dr_walk.proofs.LayingLemmas.{far_repeated}
use Rattle.dr_walk.proofs.laying.+far.Goals as goal

pub add_field_far-returns-in_ok-body-in-Repeated : goal.add_field_far-returns-in_ok-body-in-Repeated
add_field_far-returns-in_ok-body-in-Repeated t c =
    let h = shape_view c.args.field.now.shape in
    let F = picks_view c.args.picks.now in
    let G = gates_view c.args.gates.now in
    let s = laying (items_view c.args.code.now.items) (level_view c.args.level.now) in
    let b = laying (items_view c.body_of.new.code.items) (level_view c.in_ok-body-in-Repeated.body) in
    on_ok_weaker c.add_visit.result (λ e. e h
    ∙ far_repeated h F c.args.at G s b c.in_ok-body-in-Repeated.ensures
    ∙ ap (λ (r : Rep). lay (far_of_field (rep_view r) h F c.args.at G) s) (sym c.in-Repeated.is)) c.add_visit.ensures

pub add_group_far-add_selected_far-requires : goal.add_group_far-add_selected_far-requires
add_group_far-add_selected_far-requires t c =
    let fs = c.args.fields.now.items in
    let k = c.fields.place in
    let f = c.field-item.result in
    let more : k < length fs = omega (arith, c.fields-test.true, ap length c.deref-field-items.ensures.value) in
    let here : f ≡ get_or fs k f = c.field-item.is ∙ ap (λ (xs : List Field). get_or xs k f) c.deref-field-items.ensures.value in
    let d = depth_at fs k f more here in
    let e = count_from fs k f more here in
    (omega (arith, d), (omega (arith, d, c.requires.levels, c.fields.invariant.level), (omega (arith, d, c.requires.definitions, c.fields.invariant.definition), omega (arith, e, c.fields.invariant.numbers, c.requires.numbers))))

pub add_group_far-count_repeated-requires : goal.add_group_far-count_repeated-requires
add_group_far-count_repeated-requires t c =
    let fs = c.args.fields.now.items in
    let k = c.fields.place in
    let f = c.field-item.result in
    let more : k < length fs = omega (arith, c.fields-test.true, ap length c.deref-field-items.ensures.value) in
    let here : f ≡ get_or fs k f = c.field-item.is ∙ ap (λ (xs : List Field). get_or xs k f) c.deref-field-items.ensures.value in
    let e = count_from fs k f more here in
    omega (arith, e, c.fields.invariant.numbers, c.requires.numbers)

pub add_group_far-overflow_add-at : goal.add_group_far-overflow_add-at
add_group_far-overflow_add-at t c =
    let fs = c.args.fields.now.items in
    let k = c.fields.place in
    let f = c.field-item.result in
    let more : k < length fs = omega (arith, c.fields-test.true, ap length c.deref-field-items.ensures.value) in
    let here : f ≡ get_or fs k f = c.field-item.is ∙ ap (λ (xs : List Field). get_or xs k f) c.deref-field-items.ensures.value in
    let e = count_from fs k f more here in
    let n : c.count_repeated.result ≡ fields_in f = c.count_repeated.ensures in
    omega (arith, e, n, c.fields.invariant.numbers, c.requires.numbers)

pub add_group_far-fields-preserved : goal.add_group_far-fields-preserved
add_group_far-fields-preserved t c =
    let fs = c.args.fields.now.items in
    let k = c.fields.place in
    let f = c.field-item.result in
    let F = picks_view c.args.picks.now in
    let G = gates_view c.args.gates.now in
    let at = c.fields.at in
    let more : k < length fs = omega (arith, c.fields-test.true, ap length c.deref-field-items.ensures.value) in
    let here : f ≡ get_or fs k f = c.field-item.is ∙ ap (λ (xs : List Field). get_or xs k f) c.deref-field-items.ensures.value in
    let picks : picks_view c.deref.result.now ≡ picks_at k F = ap picks_view c.deref.ensures.value ∙ c.in_ok-behind.ensures in
    let e = count_from fs k f more here in
    let n : c.count_repeated.result ≡ fields_in f = c.count_repeated.ensures in
    let s = laying (items_view c.fields.code.items) (level_view c.fields.level) in
    let u = laying (items_view c.add_selected_far.new.code.items) (level_view c.add_selected_far.new.level) in
    record {
      numbers = omega (arith, e, n, c.fields.invariant.numbers);
      level = c.fields.invariant.level;
      definition = c.fields.invariant.definition;
      laid = ap (λ (m : ℕ). lay (far_items (fields_view (drop (k + 1) fs)) (shifted (k + 1) F) (at.number + m) at.level G at.definition) u) n
          ∙ far_next fs k f F at G s u more here (c.in_ok-add_selected_far.ensures ∙ ap (λ (E : List Pick). lay (far_of f E at G) s) picks)
          ∙ c.fields.invariant.laid;
    }

pub body_of-returns : goal.body_of-returns
body_of-returns t c =
    let h = shape_view c.args.shape.now in
    let F = picks_view c.args.picks.now in
    let at = c.args.at in
    let code = items_view c.args.code.now.items in
    c.in_ok-add_shape_far.ensures
    ∙ ap (lay (shape_far_items h F (at.number + 1) (at.level + 1) [] (at.definition + 1)))
    (c.in_ok-add_shape_near.ensures code ∙ ap (λ (L : Level). lay (shape_near_items h F [] (at.definition + 1)) (laying code L)) c.new-level.ensures)
