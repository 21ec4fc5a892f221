use Rattle.std.proofs.Common.{◌≡◌, ◌++◌, drop}
use Rattle.dr_walk.specs.Laying.{nulls_of}
use Rattle.dr_walk.specs.Views.{items_view}
use Rattle.dr_walk.proofs.level.nulls_in.Given as goal

-- the items from this one on are still to be gone through
abbrev pub invariant-items : goal.invariant-items
invariant-items l = items_view l.nulls.items ++ nulls_of (items_view (drop l.item-index l.items)) ≡ nulls_of (items_view l.items)
