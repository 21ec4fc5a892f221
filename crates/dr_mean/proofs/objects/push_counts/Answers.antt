use Rattle.std.proofs.Common.{◌≡◌, ◌≤◌, ◌<◌, ◌+◌, ◌++◌, ◌∷◌, [], ◌∙◌, sym, ap, List, ℕ, length, map, drop, get_or, arith, append-nil}
use Rattle.std.proofs.lemmas.List.{drop_all}
use Rattle.dr_meaning.specs.Path.{Step, begins_with}
use Rattle.dr_meaning.specs.Rows.{rows, is_present}
use Rattle.std.specs.Prelude.{filter, is_some}
use Rattle.dr_nested.specs.PathView.{step_view, paths_view}
use Rattle.dr_plan.specs.Objects.{ListTrees, tree_lists, tree_object}
use Rattle.dr_plan.specs.declared.objects.ListPlan as list_plans
use Rattle.dr_cells.specs.PlanShapes.{plan_list_view, plan_lists_view}
use Rattle.dr_cells.specs.Results.{count_cell, own_counts}
use Rattle.dr_cells.specs.Views.{cells_view}
use Rattle.dr_rows.specs.Known.{Known, known}
use Rattle.dr_mean.proofs.ItemLemmas.{lists_next, list_chain, nested_at, count_mapped, present_count, joined_more}
use Rattle.dr_mean.proofs.objects.push_counts.Goals as goal

pub lists-preserved : goal.lists-preserved
lists-preserved c =
    let ls = c.args.lists.now.items in
    let e = c.deref-list-items.ensures.value in
    let k = c.lists.list-index in
    let l = c.list-item.result in
    let h : k < length ls = omega (arith, ap length e) in
    let g : l ≡ get_or ls k l = c.list-item.is ∙ ap (λ (xs : List list_plans.ListPlan). get_or xs k l) e in
    let v = plan_list_view l in
    let ps = paths_view c.args.leaves.now in
    let before = cells_view c.lists.cells in
    let q : map step_view c.deref.result.now ≡ v.level = ap (map step_view) c.deref.ensures.value ∙ sym (list_chain l) in
    λ items p whole r d b.
    let n = nested_at items p ls k l h g b in
    let there = c.in_ok-rows.ensures.rows p whole r d (ap (begins_with p) q ∙ n.0) ∙ ap (λ (x : List Step). map (known ps x) (rows x whole)) q in
    let count = c.count_present.ensures ∙ ap (λ (ks : List Known). length (filter (λ (x : Known). is_some x.end) ks)) there ∙ present_count ps v.level (rows v.level whole)
    ∙ sym (count_mapped (tree_object items v.object) (filter (is_present v.level) (rows v.level whole))) in
    let rest = own_counts (tree_lists items (plan_lists_view (drop (k + 1) ls)) whole) in
    joined_more before (cells_view c.push_count.new.self) (count_cell c.count_present.result ∷ []) rest c.in_ok-push_count.ensures
    ∙ ap (λ (m : ℕ). before ++ (count_cell m ∷ rest)) count
    ∙ ap (λ (t : ListTrees). before ++ own_counts (tree_lists items t whole)) (sym (lists_next ls k l h g)) ∙ c.lists.invariant items p whole r d b

pub returns : goal.returns
returns c =
    let ls = c.args.lists.now.items in
    let done : length ls ≤ c.lists.list-index = omega (arith, ap length c.deref-list-items.ensures.value) in
    λ items p whole r d b.
    sym (append-nil (cells_view c.lists.cells))
    ∙ ap (λ (x : List list_plans.ListPlan). cells_view c.lists.cells ++ own_counts (tree_lists items (plan_lists_view x) whole)) (sym (drop_all c.lists.list-index ls done))
    ∙ c.lists.invariant items p whole r d b
