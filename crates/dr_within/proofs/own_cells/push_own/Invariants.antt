use Rattle.std.proofs.Common.{◌≡◌, ◌++◌, List, take}
use Rattle.dr_cells.specs.Views.{cells_view}
use Rattle.dr_meaning.specs.Path.{Leaf}
use Rattle.dr_made_laws.specs.ObjectFlow.{Made, ReadItem, items_of}
use Rattle.dr_scalar.specs.Slots.{slot_value}
use Rattle.dr_within.specs.ObjectFraming.{AreReadItems, HoldsValues}
use Rattle.dr_within.specs.OwnCells.{own_cells}
use Rattle.dr_within.proofs.own_cells.push_own.Given as goal

-- the values of the items so far
abbrev pub invariant-places : goal.invariant-places
invariant-places l = (ls : List Leaf) (rs : List ReadItem) (made : List Made) → AreReadItems ls l.items rs → HoldsValues (items_of rs) made l.values
    → cells_view l.cells ≡ cells_view l.initial.cells ++ own_cells rs (slot_value l.slots) made (take l.place-index l.places)
