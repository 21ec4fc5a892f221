use Rattle.std.proofs.Common.{◌≡◌, ◌++◌, List, length, drop, true}
use Rattle.dr_meaning.specs.Path.{Step}
use Rattle.dr_meaning.specs.Record.{Node}
use Rattle.dr_meaning.specs.Query.{RecordItem}
use Rattle.dr_plan.specs.Objects.{tree_lists}
use Rattle.dr_rows.specs.Views.{row_view}
use Rattle.dr_cells.specs.PlanShapes.{plan_lists_view}
use Rattle.dr_cells.specs.Results.{own_counts}
use Rattle.dr_cells.specs.Views.{cells_view}
use Rattle.dr_mean.specs.Nested.{are_nested}
use Rattle.dr_mean.specs.RowsOf.{IsRow}
use Rattle.dr_mean.proofs.objects.push_counts.Given as goal

-- the lists from this one on are still to be counted
abbrev pub invariant-lists : goal.invariant-lists
invariant-lists l = (items : List RecordItem) (p : List Step) (whole : Node) → IsRow l.leaves p (row_view l.row) whole → length p ≡ l.depth
    → are_nested items p (plan_lists_view l.lists.items) ≡ true
    → cells_view l.cells ++ own_counts (tree_lists items (plan_lists_view (drop l.list-index l.lists.items)) whole)
    ≡ cells_view l.initial.cells ++ own_counts (tree_lists items (plan_lists_view l.lists.items) whole)
