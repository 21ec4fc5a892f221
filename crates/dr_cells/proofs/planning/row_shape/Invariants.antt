use Rattle.std.proofs.Common.{◌≡◌, map, take, string_bytes}
use Rattle.dr_cells.specs.PlanShapes.{row_names}
use Rattle.dr_cells.proofs.planning.row_shape.Given as goal

-- the names of the items before this one
abbrev pub invariant-items : goal.invariant-items
invariant-items l = map string_bytes l.names.items ≡ row_names (take l.item-index l.items)
