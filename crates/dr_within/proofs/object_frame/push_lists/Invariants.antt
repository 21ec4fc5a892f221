use Rattle.std.proofs.Common.{◌≡◌, ◌++◌, List, take}
use Rattle.dr_cells.specs.Views.{cells_view}
use Rattle.dr_made_laws.specs.ObjectFlow.{Made}
use Rattle.dr_within.specs.ObjectFraming.{HoldsBuilt}
use Rattle.dr_within.specs.OwnCells.{list_cells}
use Rattle.dr_within.proofs.object_frame.push_lists.Given as goal

-- the cells of the lists so far
abbrev pub invariant-lists : goal.invariant-lists
invariant-lists l = (made : List Made) → HoldsBuilt made l.built → cells_view l.cells ≡ cells_view l.initial.cells ++ list_cells made (take l.number-index l.lists)
