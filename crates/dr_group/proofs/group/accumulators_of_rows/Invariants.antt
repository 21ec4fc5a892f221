use Rattle.std.proofs.Common.{◌≡◌, map, take}
use Rattle.dr_group.specs.Gathering.{gathering_view}
use Rattle.dr_group.specs.Groups.{accumulators_view}
use Rattle.dr_group.specs.RowPartials.{gathered_of_rows}
use Rattle.dr_group.proofs.group.accumulators_of_rows.Given as goal

-- one for each aggregate before this one
abbrev pub invariant-gatherings : goal.invariant-gatherings
invariant-gatherings l = accumulators_view l.accumulators.items ≡ map (gathered_of_rows l.rows) (map gathering_view (take l.gathering-index l.gatherings))
