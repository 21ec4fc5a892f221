use Rattle.std.proofs.Common.{◌≡◌, ◌++◌, map, drop, string_bytes}
use Rattle.dr_cells.specs.Shapes.{names_at}
use Rattle.dr_cells.specs.PlanShapes.{item_names}
use Rattle.dr_cells.proofs.planning.names_of.Given as goal

-- the names from this place on are still to join
abbrev pub invariant-places : goal.invariant-places
invariant-places l = map string_bytes l.names.items ++ names_at (item_names l.items) (drop l.place-index l.places) ≡ names_at (item_names l.items) l.places
