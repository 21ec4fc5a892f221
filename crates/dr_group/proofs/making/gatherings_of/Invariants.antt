use Rattle.std.proofs.Common.{◌≡◌, ◌++◌, map, drop}
use Rattle.dr_group.specs.Gathering.{gathering_view}
use Rattle.dr_group.specs.PlanGatherings.{item_gatherings}
use Rattle.dr_group.proofs.making.gatherings_of.Given as goal

-- what the items from this one on gather is still to join
abbrev pub invariant-items : goal.invariant-items
invariant-items l = map gathering_view l.gatherings.items ++ item_gatherings l.aggregates (drop l.item-index l.items) ≡ item_gatherings l.aggregates l.items
