use Rattle.std.proofs.Common.{◌≡◌, ◌++◌, map, take}
use Rattle.dr_cells.specs.Views.{cells_view}
use Rattle.dr_scalar.specs.Slots.{slot_value}
use Rattle.dr_within.specs.Late.{cell_values}
use Rattle.dr_within.proofs.keys.push_own_key.Given as goal

-- behind what was there come the values of the keys so far
abbrev pub invariant-keys : goal.invariant-keys
invariant-keys l = cell_values (cells_view l.cells) ≡ cell_values (cells_view l.initial.cells) ++ map (slot_value l.slots) (take l.number-index l.keys)
