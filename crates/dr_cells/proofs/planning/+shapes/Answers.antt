use Rattle.std.proofs.Common.{◌≡◌, ◌∙◌, sym, ap, List, arith, length, get_or}
use Rattle.std.proofs.lemmas.List.{drop_all}
use Rattle.dr_plan.specs.declared.objects.ListPlan as list_plans
use Rattle.dr_cells.specs.Results.{ListShapes}
use Rattle.dr_cells.specs.Shapes.{lists_view, tree_list_shapes}
use Rattle.dr_cells.specs.PlanShapes.{append_shapes, item_names, plan_lists_view}
use Rattle.dr_cells.proofs.ShapeLemmas.{append_shapes-none, list_more}
use Rattle.dr_cells.proofs.planning.+shapes.Goals as goal

pub list_shapes-lists-preserved : goal.list_shapes-lists-preserved
list_shapes-lists-preserved t c =
    let names = item_names c.args.items.now in
    let ls = c.args.lists.now.items in
    let e : c.deref-list-items.result.now ≡ ls = c.deref-list-items.ensures.value in
    list_more names ls c.lists.list-index c.list-item.result c.lists.shapes.items c.push.new.self.items c.in_ok-name.name c.in_ok-shape.shape
    (omega (arith, ap length e)) (c.list-item.is ∙ ap (λ (xs : List list_plans.ListPlan). get_or xs c.lists.list-index c.list-item.result) e)
    (c.in_ok-name.ensures.ok ∙ c.as_str.ensures.value) c.in_ok-shape.ensures c.in_ok-push.ensures.items
    ∙ c.lists.invariant

pub list_shapes-returns : goal.list_shapes-returns
list_shapes-returns t c =
    let names = item_names c.args.items.now in
    let ls = c.args.lists.now.items in
    let done : ListShapes = lists_view c.lists.shapes.items in
    sym (append_shapes-none done)
    ∙ ap (λ (l : List list_plans.ListPlan). append_shapes done (tree_list_shapes names (plan_lists_view l))) (sym (drop_all c.lists.list-index ls (omega (arith, ap length c.deref-list-items.ensures.value))))
    ∙ c.lists.invariant
