use Rattle.std.proofs.Common.{◌≡◌, map, take}
use Rattle.dr_levels.specs.Views.{triplets_view}
use Rattle.dr_rows_beside.specs.Rows.{follower_view, source_view}
use Rattle.dr_rows_beside.proofs.rows.Rows.kept.Given as goal

-- a place for each leaf before this one
abbrev pub invariant-beside : goal.invariant-beside
invariant-beside l = map follower_view l.beside.items ≡ map (source_view (map triplets_view l.columns)) (take l.other-index l.source.beside.items)
