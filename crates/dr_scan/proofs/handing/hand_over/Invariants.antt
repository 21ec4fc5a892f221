use Rattle.std.proofs.Common.{◌≡◌, ◌<◌, ◌≤◌, ℕ, length, map}
use Rattle.dr_agreement.specs.AtHand as hand
use Rattle.dr_scan.specs.Chunked.{batch_forms, same_streams}
use Rattle.dr_scan.specs.Streamed.{left_at}
use Rattle.dr_scan.proofs.handing.hand_over.Given as goal

-- what is at hand of the leaves before this one is handed over
abbrev pub invariant-streams : goal.invariant-streams
invariant-streams l = record {
  before : (i : ℕ) → i < l.at → left_at l.streams l.left.items i ≡ hand.here_of l.fn.leaves i;
  behind : (i : ℕ) → l.at ≤ i → hand.here_of l.leaves i ≡ hand.here_of l.fn.leaves i;
  as_many : length l.left.items ≡ l.at;
  forms : map hand.form_of l.leaves ≡ map hand.form_of l.fn.leaves;
  batches : batch_forms l.streams ≡ batch_forms l.fn.streams;
  same : same_streams l.streams ≡ same_streams l.fn.streams;
}
