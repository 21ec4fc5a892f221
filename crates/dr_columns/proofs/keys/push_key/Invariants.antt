use Rattle.std.proofs.Common.{◌≡◌, ◌++◌, map, take}
use Rattle.dr_group.specs.Views.{lent_cell}
use Rattle.dr_scalar.specs.Slots.{slot_value}
use Rattle.dr_columns.proofs.keys.push_key.Given as goal

-- behind what was there come the values of the keys so far
abbrev pub invariant-keys : goal.invariant-keys
invariant-keys l = map lent_cell l.cells.items ≡ map lent_cell l.initial.cells.items ++ map (slot_value l.slots) (take l.number-index l.keys)
