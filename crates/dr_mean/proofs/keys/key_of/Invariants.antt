use Rattle.std.proofs.Common.{◌≡◌, map, take}
use Rattle.dr_rows.specs.Views.{lent_cells}
use Rattle.dr_scalar.specs.Slots.{slot_value}
use Rattle.dr_mean.proofs.keys.key_of.Given as goal

-- the values of the keys so far
abbrev pub invariant-keys : goal.invariant-keys
invariant-keys l = lent_cells l.key.items ≡ map (slot_value l.row) (take l.number-index l.keys)
