use Rattle.std.proofs.Common.{◌≡◌, ◌<◌, ℕ, length, map}
use Rattle.dr_levels.specs.Views.{triplets_view}
use Rattle.dr_moves.specs.Leading.{columns_of}
use Rattle.dr_agreement.specs.AtHand.{here_of, IsFrontOf}
use Rattle.dr_agreement.proofs.leaves_at_hand.fronts_of.Given as goal

-- the fronts of those before this one
abbrev pub invariant-leaves : goal.invariant-leaves
invariant-leaves l = record {
  as_many : length l.fronts.items ≡ l.at;
  each : (i : ℕ) → i < l.at → IsFrontOf l.records (here_of l.leaves i) (columns_of (map triplets_view l.fronts.items) i);
}
