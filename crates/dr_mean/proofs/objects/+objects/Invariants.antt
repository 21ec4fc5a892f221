use Rattle.std.proofs.Common.{◌≡◌, ◌++◌, List, length, drop, true}
use Rattle.std.specs.List.{flat_map}
use Rattle.dr_meaning.specs.Path.{Step, begins_with}
use Rattle.dr_meaning.specs.Record.{Node}
use Rattle.dr_meaning.specs.Rows.{rows}
use Rattle.dr_plan.specs.Objects.{tree_lists}
use Rattle.dr_rows.specs.Views.{row_view}
use Rattle.dr_cells.specs.PlanShapes.{plan_list_view, plan_lists_view}
use Rattle.dr_cells.specs.Results.{inner_cells}
use Rattle.dr_cells.specs.Views.{cells_view}
use Rattle.dr_mean.specs.Nested.{are_nested, is_nested}
use Rattle.dr_mean.specs.ObjectCells.{instance_cells, items_view}
use Rattle.dr_mean.specs.RowsOf.{IsRow}
use Rattle.dr_mean.proofs.objects.+objects.Given as goal

-- the lists from this one on are still to come
abbrev pub invariant-push_lists-lists : goal.invariant-push_lists-lists
invariant-push_lists-lists l = (p : List Step) (whole : Node) → IsRow l.items.leaves.now p (row_view l.row) whole → length p ≡ l.depth
    → are_nested (items_view l.items.leaves.now l.items.items.now) p (plan_lists_view l.lists.items) ≡ true
    → cells_view l.cells ++ inner_cells (tree_lists (items_view l.items.leaves.now l.items.items.now) (plan_lists_view (drop l.list-index l.lists.items)) whole)
    ≡ cells_view l.initial.cells ++ inner_cells (tree_lists (items_view l.items.leaves.now l.items.items.now) (plan_lists_view l.lists.items) whole)

-- the rows from this one on are still to come
abbrev pub invariant-push_list-rows : goal.invariant-push_list-rows
invariant-push_list-rows l =
    let items = items_view l.items.leaves.now l.items.items.now in
    let v = plan_list_view l.list in
    (p : List Step) (whole : Node) → IsRow l.items.leaves.now p (row_view l.row) whole → length p ≡ l.depth
    → begins_with p v.level ≡ true → is_nested items v.level v.object ≡ true
    → cells_view l.cells ++ flat_map (instance_cells items v.level v.object) (drop l.number (rows v.level whole))
    ≡ cells_view l.initial.cells ++ flat_map (instance_cells items v.level v.object) (rows v.level whole)
