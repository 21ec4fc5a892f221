use Rattle.std.proofs.Common.{◌≡◌, ◌<◌, ℕ, length}
use Rattle.dr_walk.specs.Checking.{rest_at}
use Rattle.dr_scan.specs.Streamed.{left_at}
use Rattle.dr_scan.proofs.leaf_streams.rests_of.Given as goal

-- what is left of the batches so far
abbrev pub invariant-streams : goal.invariant-streams
invariant-streams l = record {
  as_many : length l.rests.items ≡ l.number;
  each : (i : ℕ) → i < l.number → rest_at l.rests.items i ≡ left_at l.streams l.left i;
}
