use Rattle.std.proofs.Common.{◌≡◌, ◌++◌, map, drop}
use Rattle.std.specs.List.{slice_get, filter_map}
use Rattle.dr_nested.specs.PathView.{path_view}
use Rattle.dr_paths.proofs.copying.paths_at.Given as goal

-- the places from this one on are still to look up
abbrev pub invariant-places : goal.invariant-places
invariant-places l =
    map path_view l.copies.items ++ filter_map (slice_get (map path_view l.paths)) (drop l.place-index l.places)
    ≡ filter_map (slice_get (map path_view l.paths)) l.places
