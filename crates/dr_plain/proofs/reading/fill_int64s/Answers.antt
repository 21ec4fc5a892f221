use Rattle.std.proofs.Common.{◌∙◌, arith, rules}
use Rattle.std.proofs.lemmas.Int.{to_z-of_z}
use mir.Syntax.{w64}
use mir.Val.{SFits}
use Rattle.dr_plain.proofs.ReadSteps.{fill_more}
use Rattle.dr_plain.proofs.reading.fill_int64s.Goals as goal

pub numbers-preserved : goal.numbers-preserved
numbers-preserved c =
    let fits : SFits w64 c.from_le_bytes.result = search rules in
    fill_more c.args.numbers.now c.numbers.out c.numbers.index _ (omega (arith, c.requires)) (omega arith) (to_z-of_z w64 _ fits ∙ c.from_le_bytes.ensures) c.numbers.invariant
