use Rattle.std.proofs.Common.{◌≡◌, map}
use Rattle.dr_nested.specs.PathView.{paths_view}
use Rattle.dr_columns.specs.Takings.{fired_view, fires_of}
use Rattle.dr_columns.proofs.firing.fired_of.Given as goal

-- each leaf before this one
abbrev pub invariant-leaves : goal.invariant-leaves
invariant-leaves l = map fired_view l.fired.items ≡ fires_of (paths_view l.leaves) l.keys l.aggregates l.place
