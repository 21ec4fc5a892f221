use Rattle.std.proofs.Common.{◌++◌, List, take}
use Rattle.std.specs.List.{flat_map}
use Rattle.dr_meaning.specs.Path.{Leaf}
use Rattle.dr_made_laws.specs.ObjectFlow.{Made, ReadItem, items_of}
use Rattle.dr_scalar.specs.Slots.{slot_value}
use Rattle.dr_within.specs.ObjectFraming.{AreReadItems, HoldsFrame}
use Rattle.dr_within.specs.OwnCells.{taken_at}
use Rattle.dr_within.proofs.object_frame.ObjectFrame.take.Given as goal

-- the values of the items so far are taken
abbrev pub invariant-places : goal.invariant-places
invariant-places l = (ls : List Leaf) (rs : List ReadItem) (made : List Made) → AreReadItems ls l.items rs → HoldsFrame (items_of rs) made l.initial.self
    → HoldsFrame (items_of rs) (made ++ flat_map (taken_at rs (slot_value l.slots)) (take l.place-index l.places)) l.self
