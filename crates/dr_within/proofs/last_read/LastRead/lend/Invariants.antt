use Rattle.std.proofs.Common.{◌≡◌, map, take}
use Rattle.std.specs.Prelude.{option_map}
use Rattle.dr_levels.specs.Views.{lent_value}
use Rattle.dr_within.specs.Rows.{last_value}
use Rattle.dr_within.proofs.last_read.LastRead.lend.Given as goal

-- the values so far
abbrev pub invariant-values : goal.invariant-values
invariant-values l = map (option_map lent_value) l.slots.items ≡ map last_value (take l.value-index l.self.values.items)
