use Rattle.std.proofs.Common.{◌≡◌, drop}
use Rattle.std.specs.Prelude.{[], Some}
use Rattle.std.specs.List.{slice_get, flat_map}
use Rattle.dr_group.specs.Maps.{gatherings_view, tuples_view}
use Rattle.dr_columns.specs.Numbers.{LeavesToPut}
use Rattle.dr_columns.specs.Takings.{takings_view, record_puts, end_puts}
use Rattle.dr_columns.proofs.taking.take_records.Given as goal

-- what the takings before this one take is put
abbrev pub invariant-takings : goal.invariant-takings
invariant-takings l = record {
  put : LeavesToPut l.fn.groups (end_puts l.records (takings_view l.takings)) l.groups (flat_map (record_puts l.records) (takings_view (drop l.taking-index l.takings)));
  gatherings : gatherings_view l.groups ≡ gatherings_view l.fn.groups;
  group : slice_get (tuples_view l.groups) l.group ≡ Some [];
}
