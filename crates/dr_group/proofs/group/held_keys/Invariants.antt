use Rattle.std.proofs.Common.{◌≡◌, map, take}
use Rattle.dr_group.specs.Views.{cell_view, lent_cell}
use Rattle.dr_group.proofs.group.held_keys.Given as goal

-- the cells before this one
abbrev pub invariant-cells : goal.invariant-cells
invariant-cells l = map cell_view l.keys.items ≡ map lent_cell (take l.cell-index l.key)
