use Rattle.std.proofs.Common.{◌≡◌, ℕ, ◌+◌, ◌<◌, length, get_or, subst, sym, arith}
use Rattle.dr_rows_beside.specs.Makings.{leaf_at, IsLast}
use Rattle.dr_rows_beside.proofs.MakingLemmas.{leaf_got, last_more}
use Rattle.dr_rows_beside.proofs.judging.last_test.Goals.{then-tests-at, else-tests-at}
use Rattle.dr_rows_beside.proofs.judging.last_test.Goals as goal

pub tests-preserved : goal.tests-preserved
tests-preserved c =
    let ts = c.args.tests.now in
    let at : leaf_at ts c.tests.at ≡ (get_or ts c.tests.at c.index-tests-at.result).source.leaf = leaf_got ts c.tests.at c.index-tests-at.result c.tests-test.true in
    let best : leaf_at ts c.tests.best ≡ (get_or ts c.tests.best c.index-tests-best.result).source.leaf = leaf_got ts c.tests.best c.index-tests-best.result c.tests.invariant.0 in
    elim c.if-tests-at.branch [
      | then-tests-at w ↦ subst (λ (r : ℕ). (r < length ts) × IsLast ts (c.tests.at + 1) r) (sym w.best-is)
          (c.tests-test.true, last_more ts c.tests.at c.tests.best c.tests.at c.tests.invariant.1 (omega (arith, at, best, w.if-tests-at.true)) (omega arith))
      | else-tests-at w ↦ subst (λ (r : ℕ). (r < length ts) × IsLast ts (c.tests.at + 1) r) (sym w.best-is)
          (c.tests.invariant.0, last_more ts c.tests.at c.tests.best c.tests.best c.tests.invariant.1 (omega arith) (omega (arith, at, best, w.if-tests-at.false)))
    ]
