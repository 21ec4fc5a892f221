use Rattle.std.proofs.Common.{◌≡◌, ◌++◌, drop}
use Rattle.dr_cells.specs.Views.{cells_view}
use Rattle.dr_group.specs.Finishing.{all_row_cells}
use Rattle.dr_group.specs.Groups.{picked}
use Rattle.dr_group.proofs.finishing.push_numbered.Given as goal

-- the rows from this one on are still to join
abbrev pub invariant-numbers : goal.invariant-numbers
invariant-numbers l =
    cells_view l.cells ++ all_row_cells l.items (picked l.groups (drop l.number-index l.numbers)) ≡ cells_view l.fn.cells ++ all_row_cells l.items (picked l.groups l.numbers)
