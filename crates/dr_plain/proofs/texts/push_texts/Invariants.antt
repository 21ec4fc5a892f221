use Rattle.std.proofs.Common.{◌≡◌}
use Rattle.dr_bytes.specs.Cutting.{whole, left}
use Rattle.dr_plain.proofs.ReadSteps.{TextsRead}
use Rattle.dr_plain.proofs.texts.push_texts.Given as goal

abbrev pub invariant-texts : goal.invariant-texts
invariant-texts l = record {
  same : whole l.cut ≡ l.bytes;
  read : TextsRead l.bytes l.count l.fn.out.items l.out.items l.counter (left l.cut);
}
