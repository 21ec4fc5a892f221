use Rattle.std.proofs.Common.{◌≡◌, ◌∷◌, take}
use Rattle.dr_within.specs.Takings.{take_nothing, aggregate_takings}
use Rattle.dr_within.specs.Firings.{Fires}
use Rattle.dr_within.proofs.firing.Firing.new.Given as goal

-- the key tuples and the aggregates so far
abbrev pub invariant-aggregates : goal.invariant-aggregates
invariant-aggregates l =
    record {
      place : l.place ≡ l.aggregate-index;
      fires : Fires l.leaves l.keys (take_nothing ∷ aggregate_takings 0 (take l.aggregate-index l.aggregates)) l.firing;
    }
