use Rattle.std.proofs.Common.{◌≡◌, List, [], replicate}
use Rattle.dr_within.specs.Takings.{Take}
use Rattle.dr_within.specs.Firings.{each_view}
use Rattle.dr_within.proofs.firing.Firing.none.Given as goal

-- no rows at each leaf so far
abbrev pub invariant-leaves : goal.invariant-leaves
invariant-leaves l = each_view l.at_leaf.items ≡ replicate {A = List Take} l.counter []
