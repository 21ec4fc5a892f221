use Rattle.std.proofs.Common.{◌≡◌, take}
use Rattle.dr_within.specs.ItemFirings.{FiresItems}
use Rattle.dr_within.proofs.item_firing.ItemFiring.new.Given as goal

-- the items so far
abbrev pub invariant-items : goal.invariant-items
invariant-items l =
    record {
      place : l.place ≡ l.item-index;
      fires : FiresItems l.leaves (take l.item-index l.items) l.firing;
    }
