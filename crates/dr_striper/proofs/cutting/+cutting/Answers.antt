use Rattle.std.proofs.Common.{◌∙◌, arith}
use Rattle.dr_striper.proofs.CuttingLemmas.{back-all, back-more, size-at, drop-more}
use Rattle.dr_striper.proofs.PassingLemmas.{same_shapes}
use Rattle.dr_striper.proofs.cutting.+cutting.Goals as goal

pub take_back-take_back_one-requires : goal.take_back-take_back_one-requires
take_back-take_back_one-requires t c =
    (omega (arith, c.decreases, size-at c.branches.number c.branches.branches c.args.branches.now c.index-branches-number.result (omega (arith, c.branches-test.true, c.branches.auto.branches)) c.branches.invariant.1), tt)

pub take_back-branches-preserved : goal.take_back-branches-preserved
take_back-branches-preserved t c = (
  back-more c.args.kept c.branches.number c.branches.branches c.index-branches-number.result c.take_back_one.new.branch _ (omega (arith, c.branches-test.true, c.branches.auto.branches)) c.take_back_one.ensures.back c.branches.invariant.0,
  drop-more c.branches.number c.branches.branches c.args.branches.now c.index-branches-number.result c.take_back_one.new.branch (omega (arith, c.branches-test.true, c.branches.auto.branches)) c.branches.invariant.1,
  same_shapes c.branches.number c.branches.branches c.index-branches-number.result c.take_back_one.new.branch (omega (arith, c.branches-test.true, c.branches.auto.branches)) c.take_back_one.ensures.shape ∙ c.branches.invariant.2,
)

pub take_back-returns-clause-back : goal.take_back-returns-clause-back
take_back-returns-clause-back t c =
    back-all c.args.kept c.branches.number c.branches.branches _ (omega (arith, c.branches-test.false, c.branches.auto.branches)) c.branches.invariant.0
