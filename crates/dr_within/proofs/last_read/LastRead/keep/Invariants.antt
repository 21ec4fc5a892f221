use Rattle.std.proofs.Common.{◌≡◌, ◌++◌, map, take, drop, length}
use Rattle.std.specs.Prelude.{option_map}
use Rattle.dr_levels.specs.Views.{lent_value}
use Rattle.dr_within.specs.Rows.{last_value}
use Rattle.dr_within.proofs.last_read.LastRead.keep.Given as goal

-- those so far are in their places
abbrev pub invariant-slots : goal.invariant-slots
invariant-slots l = record {
  as_many : length l.self.values.items ≡ length l.initial.self.values.items;
  placed : length l.initial.self.values.items ≡ length l.row.slots.items → map last_value l.self.values.items
      ≡ take l.number (map (option_map lent_value) l.row.slots.items) ++ drop l.number (map last_value l.initial.self.values.items);
}
