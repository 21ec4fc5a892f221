use Rattle.std.proofs.Common.{◌≡◌, ◌∙◌, ◌+◌, ◌<◌, ◌≤◌, ℕ, suc, take, true, sym, ap, subst, arith}
use Rattle.std.proofs.lemmas.List.{take_all}
use Rattle.dr_condition.specs.Parted.{constants_hold}
use Rattle.dr_condition.proofs.PartedLemmas.{hold_more, hold_not}
use Rattle.dr_columns.proofs.keeps.constants_hold.Goals as goal

pub tests-preserved : goal.tests-preserved
tests-preserved c =
    let ts = c.args.tests.now in
    let i = c.tests.test-index in
    let next : suc i ≡ i + 1 = omega arith in
    subst (λ (n : ℕ). constants_hold (take n ts) ≡ true) next
    (hold_more ts i c.test-item.result c.tests-test.true c.test-item.is c.tests.invariant (sym c.in_ok-may_hold.ensures ∙ c.if-not-branch.false))
