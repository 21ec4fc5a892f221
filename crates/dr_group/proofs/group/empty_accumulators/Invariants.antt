use Rattle.std.proofs.Common.{◌≡◌, map, take}
use Rattle.dr_group.specs.Gathering.{empty_of}
use Rattle.dr_group.specs.Groups.{accumulators_view}
use Rattle.dr_group.proofs.group.empty_accumulators.Given as goal

-- one for each aggregate before this one
abbrev pub invariant-gatherings : goal.invariant-gatherings
invariant-gatherings l = accumulators_view l.accumulators.items ≡ map empty_of (take l.gathering-index l.gatherings)
