use Rattle.std.proofs.Common.{◌≡◌, ◌<◌, ◌≤◌, ◌⊎◌, ℕ, length}
use Rattle.dr_agreement.specs.AtHand.{whole_at}
use Rattle.dr_agreement.proofs.leaves_at_hand.least_whole.Given as goal

-- the least of those before this one
abbrev pub invariant-leaves : goal.invariant-leaves
invariant-leaves l = record {
  within : l.least ≤ l.most;
  each : (i : ℕ) → i < l.at → l.least ≤ whole_at l.leaves i;
  reached : (l.least ≡ l.most) ⊎ ((i : ℕ) × (i < length l.leaves) × (whole_at l.leaves i ≡ l.least));
}
