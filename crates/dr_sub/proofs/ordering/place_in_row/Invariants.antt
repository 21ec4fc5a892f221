use Rattle.std.proofs.Common.{◌≡◌, drop}
use Rattle.dr_ordering.specs.Ordered.{place_of_name}
use Rattle.dr_cells.specs.PlanShapes.{row_names}
use Rattle.dr_sub.proofs.NestedLemmas.{Ahead}
use Rattle.dr_sub.proofs.ordering.place_in_row.Given as goal

-- the name isn't among those before this item
abbrev pub invariant-items : goal.invariant-items
invariant-items l = Ahead l.place (place_of_name l.name (row_names (drop l.place l.items))) ≡ place_of_name l.name (row_names l.items)
