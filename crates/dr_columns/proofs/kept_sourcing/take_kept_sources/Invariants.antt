use Rattle.std.proofs.Common.{◌≡◌, drop, map}
use Rattle.std.specs.List.{flat_map}
use Rattle.dr_levels.specs.Views.{triplets_view}
use Rattle.dr_group.specs.Maps.{gatherings_view}
use Rattle.dr_columns.specs.Numbers.{LeavesToPut}
use Rattle.dr_columns.specs.Takings.{fired_view}
use Rattle.dr_columns.specs.KeptTakings.{kept_puts}
use Rattle.dr_columns.proofs.kept_sourcing.take_kept_sources.Given as goal

-- the rows of the leaves before this one are put
abbrev pub invariant-fired : goal.invariant-fired
invariant-fired l = record {
  put : LeavesToPut l.initial.groups (flat_map (kept_puts l.keys (map triplets_view l.columns) l.keeping) (map fired_view l.fired)) l.groups
      (flat_map (kept_puts l.keys (map triplets_view l.columns) l.keeping) (map fired_view (drop l.leaf-index l.fired)));
  gatherings : gatherings_view l.groups ≡ gatherings_view l.initial.groups;
}
