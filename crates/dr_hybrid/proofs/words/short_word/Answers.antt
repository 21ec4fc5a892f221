use Rattle.std.proofs.Common.{arith}
use Rattle.dr_hybrid.proofs.UnpackLemmas.{last_below}
use Rattle.dr_hybrid.proofs.words.short_word.Goals as goal

pub overflow_mul-word : goal.overflow_mul-word
overflow_mul-word c = omega (arith, last_below c.args.bytes.now c.bytes.done c.bytes.word (λ i. omega (arith, c.type_inv.bytes i)) (omega arith) c.requires c.bytes.invariant)

pub overflow_add-word : goal.overflow_add-word
overflow_add-word c = omega (arith, last_below c.args.bytes.now c.bytes.done c.bytes.word (λ i. omega (arith, c.type_inv.bytes i)) (omega arith) c.requires c.bytes.invariant)
