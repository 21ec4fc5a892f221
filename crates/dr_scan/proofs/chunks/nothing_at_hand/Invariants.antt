use Rattle.std.proofs.Common.{◌≡◌, [], ℕ, map, take, false}
use Rattle.dr_agreement.specs.AtHand as hand
use Rattle.dr_scan.specs.Chunked.{batch_forms}
use Rattle.dr_scan.proofs.chunks.nothing_at_hand.Given as goal

-- nothing of those before this one
abbrev pub invariant-streams : goal.invariant-streams
invariant-streams l = record {
  forms : map hand.form_of l.leaves.items ≡ batch_forms (take l.stream-index l.streams);
  none : (i : ℕ) → hand.here_of l.leaves.items i ≡ [];
  ends : (i : ℕ) → hand.ends_of l.leaves.items i ≡ false;
}
