use Rattle.std.proofs.Common.{◌≡◌}
use Rattle.dr_bytes.specs.Cutting.{whole, left}
use Rattle.dr_plain.proofs.BatchSteps.{Found}
use Rattle.dr_plain.proofs.text_batch.put_places.Given as goal

abbrev pub invariant-texts : goal.invariant-texts
invariant-texts l = record {
  same : whole l.cut ≡ l.bytes;
  found : Found l.bytes l.out l.index (left l.cut);
}
