use Rattle.std.proofs.Common.{arith, ◌∙◌}
use Rattle.dr_hybrid.proofs.UnpackLemmas.{few_below}
use Rattle.dr_hybrid.proofs.words.number_of.Goals as goal

pub overflow_cast-result : goal.overflow_cast-result
overflow_cast-result c = let f = few_below c.args.bytes.now (λ i. omega (arith, c.type_inv.bytes i)) c.requires in omega (arith, c.front_word.ensures, f.0, f.1, f.2)

pub returns : goal.returns
returns c =
    let f = few_below c.args.bytes.now (λ i. omega (arith, c.type_inv.bytes i)) c.requires in
    record { number = c.front_word.ensures ∙ f.0; below = omega (arith, c.front_word.ensures, f.0, f.1) }
