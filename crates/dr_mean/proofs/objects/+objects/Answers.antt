use Rattle.std.proofs.Common.{◌≡◌, ◌≤◌, ◌<◌, ◌+◌, ◌++◌, ◌∙◌, sym, ap, List, ℕ, length, map, drop, get_or, arith, append-nil, true, false}
use Rattle.std.specs.Prelude.{is_some, not}
use Rattle.std.specs.List.{flat_map}
use Rattle.std.proofs.lemmas.List.{drop_all, length-map}
use Rattle.dr_meaning.specs.Path.{Step, begins_with}
use Rattle.dr_meaning.specs.Record.{Node}
use Rattle.dr_meaning.specs.Rows.{rows}
use Rattle.dr_nested.specs.PathView.{step_view, paths_view}
use Rattle.dr_plan.specs.Objects.{ListTrees, ObjectTree, tree_lists, object_view}
use Rattle.dr_plan.specs.declared.objects.ListPlan as list_plans
use Rattle.dr_cells.specs.PlanShapes.{plan_list_view, plan_lists_view}
use Rattle.dr_cells.specs.Results.{ResultCell, inner_cells}
use Rattle.dr_cells.specs.Views.{cells_view}
use Rattle.dr_cells.proofs.ShapeLemmas.{view-object}
use Rattle.dr_rows.specs.Known.{known}
use Rattle.dr_rows.specs.Views.{row_view, rows_view}
use Rattle.dr_mean.specs.Nested.{items_are_below, is_nested}
use Rattle.dr_mean.specs.ObjectCells.{instance_cells, items_cells, items_view}
use Rattle.dr_mean.proofs.ItemLemmas.{lists_next, list_chain, list_object, nested_at, joined_more}
use Rattle.dr_mean.proofs.ObjectCellLemmas.{present_row, absent_cells, present_cells, nested_parts, cells_of_instances}
use Rattle.dr_mean.proofs.RowIsLemmas.{row_is}
use Rattle.dr_mean.proofs.WithinLemmas.{on_ok_by}
use Rattle.dr_mean.proofs.objects.+objects.Goals as goal

pub push_object-returns-then-is_none : goal.push_object-returns-then-is_none
push_object-returns-then-is_none t c = λ p whole r d n.
    let none : is_some c.args.row.end ≡ false = c.is_none.ensures ∙ ap not c.if-is_none.true in
    absent_cells (items_view c.args.items.leaves.now c.args.items.items.now) p (object_view c.args.object.now) whole (cells_view c.args.cells.now) (present_row c.args.items.leaves.now p c.args.row whole r ∙ none)

pub push_object-returns : goal.push_object-returns
push_object-returns t c =
    let items = items_view c.args.items.leaves.now c.args.items.items.now in
    let o = c.args.object.now in
    let some : is_some c.args.row.end ≡ true = c.is_none.ensures ∙ ap not c.if-is_none.false in
    on_ok_by c.push_lists.result _ _ c.push_lists.ensures (λ pushed. λ p whole r d n.
    let parts = nested_parts items p (object_view o) _ _ (view-object o) n in
    present_cells items p (object_view o) _ _ whole (cells_view c.args.cells.now) (cells_view c.push_items.new.cells) (cells_view c.push_counts.new.cells) (cells_view c.push_lists.new.cells)
    (present_row c.args.items.leaves.now p c.args.row whole r ∙ some) (view-object o)
    (c.in_ok-push_items.ensures p whole r d (ap (items_are_below items p) c.deref.ensures.value ∙ parts.0) ∙ ap (λ (ns : List ℕ). cells_view c.args.cells.now ++ items_cells items ns whole) c.deref.ensures.value)
    (c.in_ok-push_counts.ensures items p whole r d parts.1) (pushed p whole r d parts.1))

pub push_lists-lists-preserved : goal.push_lists-lists-preserved
push_lists-lists-preserved t c =
    let ls = c.args.lists.now.items in
    let e = c.deref-list-items.ensures.value in
    let items = items_view c.args.items.leaves.now c.args.items.items.now in
    let k = c.lists.list-index in
    let l = c.list-item.result in
    let h : k < length ls = omega (arith, ap length e) in
    let g : l ≡ get_or ls k l = c.list-item.is ∙ ap (λ (xs : List list_plans.ListPlan). get_or xs k l) e in
    let v = plan_list_view l in
    let before = cells_view c.lists.cells in
    λ p whole r d b.
    let n = nested_at items p ls k l h g b in
    let rest = inner_cells (tree_lists items (plan_lists_view (drop (k + 1) ls)) whole) in
    joined_more before (cells_view c.push_list.new.cells) _ rest (c.in_ok-push_list.ensures p whole r d n.0 n.1)
    ∙ ap (λ (cs : List ResultCell). before ++ (cs ++ rest)) (cells_of_instances items v.level v.object (rows v.level whole))
    ∙ ap (λ (x : ListTrees). before ++ inner_cells (tree_lists items x whole)) (sym (lists_next ls k l h g)) ∙ c.lists.invariant p whole r d b

pub push_lists-returns : goal.push_lists-returns
push_lists-returns t c =
    let ls = c.args.lists.now.items in
    let items = items_view c.args.items.leaves.now c.args.items.items.now in
    let done : length ls ≤ c.lists.list-index = omega (arith, ap length c.deref-list-items.ensures.value) in
    λ p whole r d b.
    sym (append-nil (cells_view c.lists.cells))
    ∙ ap (λ (x : List list_plans.ListPlan). cells_view c.lists.cells ++ inner_cells (tree_lists items (plan_lists_view x) whole)) (sym (drop_all c.lists.list-index ls done))
    ∙ c.lists.invariant p whole r d b

pub push_list-rows-preserved : goal.push_list-rows-preserved
push_list-rows-preserved t c =
    let ls = c.args.items.leaves.now in
    let items = items_view ls c.args.items.items.now in
    let l = c.args.list.now in
    let v = plan_list_view l in
    let i = c.rows.number in
    let k = row_view c.row-instance.result in
    let ks = rows_view c.in_ok-rows.rows in
    let before = cells_view c.rows.cells in
    let steps = (list_plans.out-ListPlan l).level in
    let size : length v.level ≡ c.len.result = omega (arith, ap length (list_chain l), length-map steps.items step_view, c.len.ensures, steps.ok.0) in
    let q : map step_view c.deref.result.now ≡ v.level = ap (map step_view) c.deref.ensures.value ∙ sym (list_chain l) in
    λ p whole r d b n.
    let there = c.in_ok-rows.ensures.rows p whole r d (ap (begins_with p) q ∙ b) ∙ ap (λ (x : List Step). map (known (paths_view ls) x) (rows x whole)) q in
    let here = row_is ls v.level whole ks i k (drop (i + 1) ks) r.typed there c.row-instance.ensures.row in
    let rest = flat_map (instance_cells items v.level v.object) (drop (i + 1) (rows v.level whole)) in
    joined_more before (cells_view c.push_object.new.cells) _ rest
    (c.in_ok-push_object.ensures v.level here.row here.is size (ap (is_nested items v.level) (sym (list_object l)) ∙ n)
    ∙ ap (λ (o : ObjectTree). before ++ instance_cells items v.level o here.row) (sym (list_object l)))
    ∙ ap (λ (rs : List Node). before ++ flat_map (instance_cells items v.level v.object) rs) (sym here.next) ∙ c.rows.invariant p whole r d b n

pub push_list-returns : goal.push_list-returns
push_list-returns t c =
    let ls = c.args.items.leaves.now in
    let items = items_view ls c.args.items.items.now in
    let l = c.args.list.now in
    let v = plan_list_view l in
    let i = c.rows.number in
    let q : map step_view c.deref.result.now ≡ v.level = ap (map step_view) c.deref.ensures.value ∙ sym (list_chain l) in
    λ p whole r d b n.
    let there = c.in_ok-rows.ensures.rows p whole r d (ap (begins_with p) q ∙ b) ∙ ap (λ (x : List Step). map (known (paths_view ls) x) (rows x whole)) q in
    let done : length (rows v.level whole) ≤ i = omega (arith, ap length there, length-map (rows v.level whole) (known (paths_view ls) v.level)) in
    sym (append-nil (cells_view c.rows.cells))
    ∙ ap (λ (rs : List Node). cells_view c.rows.cells ++ flat_map (instance_cells items v.level v.object) rs) (sym (drop_all i (rows v.level whole) done)) ∙ c.rows.invariant p whole r d b n
