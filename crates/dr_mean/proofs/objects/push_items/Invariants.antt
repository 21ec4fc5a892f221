use Rattle.std.proofs.Common.{◌≡◌, ◌++◌, List, length, drop, true}
use Rattle.dr_meaning.specs.Path.{Step}
use Rattle.dr_meaning.specs.Record.{Node}
use Rattle.dr_rows.specs.Views.{row_view}
use Rattle.dr_cells.specs.Views.{cells_view}
use Rattle.dr_mean.specs.Nested.{items_are_below}
use Rattle.dr_mean.specs.ObjectCells.{items_cells, items_view}
use Rattle.dr_mean.specs.RowsOf.{IsRow}
use Rattle.dr_mean.proofs.objects.push_items.Given as goal

-- the items from this one on are still to come
abbrev pub invariant-places : goal.invariant-places
invariant-places l = (p : List Step) (whole : Node) → IsRow l.items.leaves.now p (row_view l.row) whole → length p ≡ l.depth
    → items_are_below (items_view l.items.leaves.now l.items.items.now) p l.places ≡ true
    → cells_view l.cells ++ items_cells (items_view l.items.leaves.now l.items.items.now) (drop l.place-index l.places) whole
    ≡ cells_view l.initial.cells ++ items_cells (items_view l.items.leaves.now l.items.items.now) l.places whole
