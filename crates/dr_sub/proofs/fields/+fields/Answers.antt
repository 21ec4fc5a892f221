use Rattle.std.proofs.Common.{◌≡◌, ◌∙◌, refl, ap, List, arith, length, get_or}
use Rattle.dr_nested.specs.Views.{fields_view}
use Rattle.dr_nested.specs.declared.shape.Rep.{Rep}
use Rattle.dr_nested.specs.declared.shape.Shape as shapes
use Rattle.dr_plan.specs.declared.objects.ListPlan as list_plans
use Rattle.dr_sub_meaning.specs.ResultRecords as meaning
use Rattle.dr_sub.specs.ResultFields.{leaves_of}
use Rattle.dr_sub.proofs.FieldLemmas.{group_more, groups_done}
use Rattle.dr_sub.proofs.fields.+fields.Goals as goal

pub push_groups-lists-preserved : goal.push_groups-lists-preserved
push_groups-lists-preserved t c =
    let ls = c.args.lists.now.items in
    let e : c.deref-list-items.result.now ≡ ls = c.deref-list-items.ensures.value in
    group_more (leaves_of c.args.items.now) ls c.lists.list-index c.list-item.result c.lists.fields.items c.push.new.self.items
    (record { name = c.in_ok-name.name; rep = Rep.Repeated; shape = shapes.Group c.in_ok-inside.inside }) c.in_ok-inside.inside
    (omega (arith, ap length e, c.lists-test.true)) (c.list-item.is ∙ ap (λ (xs : List list_plans.ListPlan). get_or xs c.lists.list-index c.list-item.result) e)
    c.in_ok-push.ensures.items (c.in_ok-name.ensures ∙ ap meaning.field_name c.as_str.ensures.value) refl refl c.in_ok-inside.ensures
    ∙ c.lists.invariant

pub push_groups-returns : goal.push_groups-returns
push_groups-returns t c =
    groups_done (leaves_of c.args.items.now) c.args.lists.now.items c.lists.list-index (fields_view c.lists.fields.items) (omega (arith, ap length c.deref-list-items.ensures.value, c.lists-test.false))
    ∙ c.lists.invariant
