use Rattle.std.proofs.Common.{arith, refl}
use Rattle.std.proofs.lemmas.Grind.{common_steps}
use Rattle.dr_plain.proofs.ReadSteps.{truths_more}
use Rattle.dr_plain.proofs.reading.push_bits.Goals as goal

pub bits-preserved : goal.bits-preserved
bits-preserved c = record {
  room = omega arith;
  read = truths_more _ c.args.out.now.items c.bits.out.items c.push_reserved.new.self.items c.args.start c.bits.index _ (λ i. omega (arith, c.type_inv.bytes i)) (omega arith) (grind (arith, common_steps)) refl c.push_reserved.ensures.items c.bits.invariant.read;
}
