use Rattle.std.proofs.Common.{◌≡◌, drop, map}
use Rattle.std.specs.Prelude.{[], Some}
use Rattle.std.specs.List.{slice_get, flat_map}
use Rattle.dr_levels.specs.Views.{triplets_view}
use Rattle.dr_group.specs.Maps.{gatherings_view, tuples_view}
use Rattle.dr_columns.specs.Numbers.{LeavesToPut}
use Rattle.dr_columns.specs.Takings.{takings_view, fired_view, fired_rows, taking_puts, source_puts}
use Rattle.dr_columns.proofs.keyless.take_keyless.Given as goal

-- the rows' group is put, and what the takings before this one take
abbrev pub invariant-takings : goal.invariant-takings
invariant-takings l = record {
  put : LeavesToPut l.fn.groups (source_puts [] (map triplets_view l.columns) (fired_view l.fired)) l.groups
      (flat_map (taking_puts [] (fired_rows (map triplets_view l.columns) (fired_view l.fired))) (takings_view (drop l.taking-index l.fired.takings.items)));
  gatherings : gatherings_view l.groups ≡ gatherings_view l.fn.groups;
  group : slice_get (tuples_view l.groups) l.group ≡ Some [];
}
