use Rattle.std.proofs.Common.{◌≡◌, ◌<◌, ℕ, []}
use Rattle.dr_agreement.specs.AtHand.{here_of}
use Rattle.dr_agreement.proofs.leaves_at_hand.all_passed.Given as goal

-- nothing is left of those before this one
abbrev pub invariant-leaves : goal.invariant-leaves
invariant-leaves l = (i : ℕ) → i < l.at → here_of l.leaves i ≡ []
