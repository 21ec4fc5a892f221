use Rattle.std.proofs.Common.{◌≡◌, ◌<◌, ℕ, true}
use Rattle.dr_agreement.specs.AtHand.{ends_of, whole_at}
use Rattle.dr_agreement.proofs.leaves_at_hand.wanting.Given as goal

-- those before this one that have no whole record are at their ends
abbrev pub invariant-leaves : goal.invariant-leaves
invariant-leaves l = (i : ℕ) → i < l.at → whole_at l.leaves i ≡ 0 → ends_of l.leaves i ≡ true
