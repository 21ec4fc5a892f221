use Rattle.std.proofs.Common.{◌≡◌, ℕ, List, [], replicate}
use Rattle.dr_within.specs.ItemFirings.{each_places}
use Rattle.dr_within.proofs.item_firing.ItemFiring.none.Given as goal

-- no places at each leaf so far
abbrev pub invariant-leaves : goal.invariant-leaves
invariant-leaves l = each_places l.at_leaf.items ≡ replicate {A = List ℕ} l.counter []
