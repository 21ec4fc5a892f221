use Rattle.std.proofs.Common.{◌≡◌, ◌++◌, drop}
use Rattle.dr_cells.specs.Views.{cells_view}
use Rattle.dr_group.specs.Finishing.{row_cells, group_cells}
use Rattle.dr_group.specs.Groups.{group_view}
use Rattle.dr_group.proofs.finishing.push_row.Given as goal

-- the cells of the items from this one on are still to join
abbrev pub invariant-items : goal.invariant-items
invariant-items l =
    cells_view l.cells ++ row_cells (drop l.item-index l.items) (group_view l.group).keys (drop l.next (group_view l.group).accumulators) ≡ cells_view l.fn.cells ++ group_cells l.items (group_view l.group)
