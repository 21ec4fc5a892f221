use Rattle.std.proofs.Common.{◌≡◌, ℕ, List, drop, map}
use Rattle.std.specs.List.{flat_map}
use Rattle.dr_levels.specs.Views.{triplets_view}
use Rattle.dr_group.specs.Maps.{gatherings_view, tuples_view}
use Rattle.dr_rows_beside.specs.Rows.{picked}
use Rattle.dr_columns.specs.RowPuts.{keys_in}
use Rattle.dr_columns.specs.Numbers.{tuples_at, LeavesToPut}
use Rattle.dr_columns.specs.Takings.{takings_view, fired_view, fired_rows, taking_puts}
use Rattle.dr_columns.proofs.kept_sourcing.take_kept_each.Given as goal

-- what the takings before this one take is put
abbrev pub invariant-takings : goal.invariant-takings
invariant-takings l = record {
  put : (ks : List ℕ) → tuples_at (tuples_view l.initial.groups) l.numbers ≡ map (keys_in ks) (picked l.bits (fired_rows (map triplets_view l.columns) (fired_view l.fired)))
      → LeavesToPut l.initial.groups (flat_map (taking_puts ks (picked l.bits (fired_rows (map triplets_view l.columns) (fired_view l.fired)))) (takings_view l.fired.takings.items)) l.groups
      (flat_map (taking_puts ks (picked l.bits (fired_rows (map triplets_view l.columns) (fired_view l.fired)))) (takings_view (drop l.taking-index l.fired.takings.items)));
  gatherings : gatherings_view l.groups ≡ gatherings_view l.initial.groups;
  tuples : tuples_view l.groups ≡ tuples_view l.initial.groups;
}
