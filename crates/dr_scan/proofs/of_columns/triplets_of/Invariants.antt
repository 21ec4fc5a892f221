use Rattle.std.proofs.Common.{◌≡◌, map, take}
use Rattle.dr_levels.specs.Views.{columns_view, triplets_view}
use Rattle.dr_scan.proofs.of_columns.triplets_of.Given as goal

-- those so far
abbrev pub invariant-columns : goal.invariant-columns
invariant-columns l = map triplets_view l.triplets.items ≡ columns_view (take l.column-index l.columns)
