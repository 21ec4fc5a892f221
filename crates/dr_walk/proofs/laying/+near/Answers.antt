use Rattle.std.proofs.Common.{◌≡◌, ◌<◌, ◌+◌, List, length, get_or, ap, sym, ◌∙◌, arith}
use Rattle.std.proofs.lemmas.Result.{on_ok_weaker}
use Rattle.dr_meaning.specs.Schema as tree
use Rattle.dr_meaning.specs.Automaton.{Pick}
use Rattle.dr_nested.specs.declared.shape.Rep.{Rep}
use Rattle.dr_nested.specs.declared.shape.Field.{Field}
use Rattle.dr_nested.specs.Views.{rep_view, shape_view, fields_view}
use Rattle.dr_nested.proofs.ViewLemmas.{view-group}
use Rattle.dr_levels.specs.Orders.{picks_at}
use Rattle.dr_moves.specs.Course.{Gate, Items, unless_repeated, gated, near_items, field_near_items, shape_near_items}
use Rattle.dr_walk.specs.Laying.{lay, laying}
use Rattle.dr_walk.specs.Views.{picks_view, gates_view, level_view}
use Rattle.dr_walk.proofs.FieldLemmas.{depth_at, near_next, near_of}
use Rattle.dr_walk.proofs.LayingLemmas.{required_near}
use Rattle.dr_walk.proofs.laying.+near.Goals as goal

pub add_field_near-returns-in-Required : goal.add_field_near-returns-in-Required
add_field_near-returns-in-Required t c =
    let h = shape_view c.args.field.now.shape in
    let F = picks_view c.args.picks.now in
    let G = gates_view c.args.gates.now in
    let d = c.args.definition in
    on_ok_weaker c.add_shape_near.result (λ e code. e code ∙ ap (λ (I : Items). lay I (laying code (level_view c.args.level.now))) (sym (ap (λ (r : Rep). unless_repeated (rep_view r) (field_near_items (rep_view r) h F G d)) c.in-Required.is ∙ required_near h F G d))) c.add_shape_near.ensures

pub add_group_near-add_field_near-requires : goal.add_group_near-add_field_near-requires
add_group_near-add_field_near-requires t c =
    let fs = c.args.fields.now.items in
    let k = c.fields.place in
    let f = c.field-item.result in
    let more : k < length fs = omega (arith, c.fields-test.true, ap length c.deref-field-items.ensures.value) in
    let here : f ≡ get_or fs k f = c.field-item.is ∙ ap (λ (xs : List Field). get_or xs k f) c.deref-field-items.ensures.value in
    let d = depth_at fs k f more here in
    (omega (arith, d), omega (arith, d, c.requires))

pub add_group_near-fields-preserved : goal.add_group_near-fields-preserved
add_group_near-fields-preserved t c = λ code.
    let fs = c.args.fields.now.items in
    let k = c.fields.place in
    let f = c.field-item.result in
    let F = picks_view c.args.picks.now in
    let G = gates_view c.args.gates.now in
    let d = c.args.definition in
    let more : k < length fs = omega (arith, c.fields-test.true, ap length c.deref-field-items.ensures.value) in
    let here : f ≡ get_or fs k f = c.field-item.is ∙ ap (λ (xs : List Field). get_or xs k f) c.deref-field-items.ensures.value in
    let picks : picks_view c.deref.result.now ≡ picks_at k F = ap picks_view c.deref.ensures.value ∙ c.in_ok-behind.ensures in
    near_next fs k f F G d (laying code (level_view c.fields.level)) (laying code (level_view c.add_field_near.new.level)) more here
    (c.in_ok-add_field_near.ensures code ∙ ap (λ (E : List Pick). lay (near_of f E G d) (laying code (level_view c.fields.level))) picks)
    ∙ c.fields.invariant code

pub add_optional_near-returns-in_ok-gates-in-Group : goal.add_optional_near-returns-in_ok-gates-in-Group
add_optional_near-returns-in_ok-gates-in-Group t c =
    let F = picks_view c.args.picks.now in
    let G = gates_view c.args.gates.now in
    let d = c.args.definition in
    let fs = fields_view c.in-Group.fields.items in
    let shape : shape_view c.args.shape.now ≡ tree.group fs = ap shape_view c.in-Group.is ∙ view-group c.in-Group.fields in
    let gates : gates_view c.deref.result.now ≡ gated tree.optional F d G = ap gates_view c.deref.ensures.value ∙ c.in_ok-gates-in-Group.ensures in
    on_ok_weaker c.add_group_near.result (λ e code. e code
    ∙ ap (λ (H : List Gate). lay (near_items fs F H (d + 1)) (laying code (level_view c.args.level.now))) gates
    ∙ ap (λ (h : tree.Shape). lay (field_near_items tree.optional h F G d) (laying code (level_view c.args.level.now))) (sym shape)) c.add_group_near.ensures

pub add_shape_near-returns-in-Group : goal.add_shape_near-returns-in-Group
add_shape_near-returns-in-Group t c =
    let F = picks_view c.args.picks.now in
    let G = gates_view c.args.gates.now in
    let d = c.args.definition in
    let shape : shape_view c.args.shape.now ≡ tree.group (fields_view c.in-Group.fields.items) = ap shape_view c.in-Group.is ∙ view-group c.in-Group.fields in
    on_ok_weaker c.add_group_near.result (λ e code. e code
    ∙ ap (λ (h : tree.Shape). lay (shape_near_items h F G d) (laying code (level_view c.args.level.now))) (sym shape)) c.add_group_near.ensures
