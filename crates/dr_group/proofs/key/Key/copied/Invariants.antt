use Rattle.std.proofs.Common.{◌≡◌, map, take}
use Rattle.dr_group.specs.Views.{cell_view}
use Rattle.dr_group.proofs.key.Key.copied.Given as goal

-- the cells before this one
abbrev pub invariant-cells : goal.invariant-cells
invariant-cells l = map cell_view l.cells.items ≡ map cell_view (take l.cell-index l.key)
