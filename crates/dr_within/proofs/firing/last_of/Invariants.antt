use Rattle.std.proofs.Common.{◌≡◌, take}
use Rattle.dr_scalar.specs.Leaves.{greatest}
use Rattle.dr_within.proofs.firing.last_of.Given as goal

-- the last of the leaves so far
abbrev pub invariant-leaves : goal.invariant-leaves
invariant-leaves l = l.last ≡ greatest (take l.leaf-index l.leaves)
