use Rattle.std.proofs.Common.{◌≡◌, ◌++◌, ◌-◌, map, take, drop}
use Rattle.dr_cells.specs.Views.{cells_view}
use Rattle.dr_group.specs.Views.{lent_cell}
use Rattle.dr_within.specs.Late.{cell_values}
use Rattle.dr_within.proofs.keys.lend_key.Given as goal

-- behind what was there come the values so far
abbrev pub invariant-cells : goal.invariant-cells
invariant-cells l = map lent_cell l.cells.items ≡ map lent_cell l.initial.cells.items ++ take (l.number - l.start) (drop l.start (cell_values (cells_view l.from)))
