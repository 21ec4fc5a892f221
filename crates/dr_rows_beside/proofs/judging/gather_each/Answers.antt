use Rattle.std.proofs.Common.{arith}
use Rattle.dr_levels.specs.Apart.{repetitions}
use Rattle.dr_rows_beside.proofs.JudgingLemmas.{gathered_more}
use Rattle.dr_rows_beside.proofs.judging.gather_each.Goals as goal

pub depths-preserved : goal.depths-preserved
depths-preserved c =
    gathered_more (repetitions c.args.levels.now) c.args.bits.now c.depths.depth c.depths.out c.gather.new.out (omega (arith, c.depths-test.true, c.depths.auto.out)) c.depths.invariant c.in_ok-gather.ensures
