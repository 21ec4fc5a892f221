use Rattle.std.proofs.Common.{◌≡◌, ◌<◌, ◌≤◌, ◌∙◌, ◌++◌, List, length, get_or, map, sym, ap, arith, append-nil}
use Rattle.std.proofs.lemmas.List.{drop_all}
use Rattle.std.proofs.lemmas.Result.{on_ok_weaker}
use Rattle.dr_nested.specs.PathView.{step_view}
use Rattle.dr_nested.specs.Views.{fields_view}
use Rattle.dr_plan.specs.declared.objects.ListPlan as list_plans
use Rattle.dr_cells.specs.PlanShapes.{plan_list_view, plan_lists_view}
use Rattle.dr_within.specs.LevelTable.{level_number, list_rows, tree_numbers, rows_in}
use Rattle.dr_within.proofs.LevelSteps.{list_level, rows_next, numbers_next, object_rows}
use Rattle.dr_within.proofs.levels.+levels.Goals as goal

pub add_lists-lists-preserved : goal.add_lists-lists-preserved
add_lists-lists-preserved t c =
    let fs = fields_view c.args.schema.now.fields.items in
    let ls = c.args.lists.now.items in
    let e = c.deref-list-items.ensures.value in
    let k = c.lists.list-index in
    let l = c.list-item.result in
    let h : k < length ls = omega (arith, ap length e) in
    let g : l ≡ get_or ls k l = c.list-item.is ∙ ap (λ (xs : List list_plans.ListPlan). get_or xs k l) e in
    let path : map step_view c.deref.result.now ≡ (plan_list_view l).level = ap (map step_view) c.deref.ensures.value ∙ sym (list_level l) in
    let n : c.in_ok-number.number ≡ level_number fs (plan_list_view l).level = c.in_ok-number.ensures ∙ ap (level_number fs) path in (
      rows_next fs ls k l c.in_ok-number.number (rows_in c.lists.rows.items) (rows_in c.add_object.new.rows.items) h g n c.in_ok-add_object.ensures ∙ c.lists.invariant.0,
      numbers_next fs ls k l c.in_ok-number.number c.lists.numbers.items c.push.new.self.items h g n c.in_ok-push.ensures.items ∙ c.lists.invariant.1,
    )

pub add_lists-returns-clause-rows : goal.add_lists-returns-clause-rows
add_lists-returns-clause-rows t c =
    let fs = fields_view c.args.schema.now.fields.items in
    let ls = c.args.lists.now.items in
    let done : length ls ≤ c.lists.list-index = omega (arith, ap length c.deref-list-items.ensures.value) in
    ap (λ (x : List list_plans.ListPlan). list_rows fs (plan_lists_view x) (rows_in c.lists.rows.items)) (sym (drop_all c.lists.list-index ls done)) ∙ c.lists.invariant.0

pub add_lists-returns-clause-numbers : goal.add_lists-returns-clause-numbers
add_lists-returns-clause-numbers t c =
    let fs = fields_view c.args.schema.now.fields.items in
    let ls = c.args.lists.now.items in
    let done : length ls ≤ c.lists.list-index = omega (arith, ap length c.deref-list-items.ensures.value) in
    sym (append-nil c.lists.numbers.items)
    ∙ ap (λ (x : List list_plans.ListPlan). c.lists.numbers.items ++ tree_numbers fs (plan_lists_view x)) (sym (drop_all c.lists.list-index ls done)) ∙ c.lists.invariant.1

pub add_object-returns : goal.add_object-returns
add_object-returns t c =
    let fs = fields_view c.args.schema.now.fields.items in
    on_ok_weaker c.set.result (λ h. h
    ∙ object_rows fs c.args.number c.args.object.now c.in_ok-items.items.items c.in_ok-lists.lists.items (rows_in c.args.rows.now.items) (rows_in c.add_lists.new.rows.items)
    (c.in_ok-items.ensures ∙ c.deref.ensures.value) c.in_ok-lists.ensures.numbers c.in_ok-lists.ensures.rows) c.set.ensures
