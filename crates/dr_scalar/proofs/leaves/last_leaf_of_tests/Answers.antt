use Rattle.std.proofs.Common.{◌∙◌, sym, ap, ap₂, take_all}
use Rattle.dr_scalar.specs.Leaves.{tests_leaves, greater, greatest}
use Rattle.dr_scalar.proofs.LastLemmas.{last_more}
use Rattle.dr_scalar.proofs.leaves.last_leaf_of_tests.Goals as goal

pub tests-preserved : goal.tests-preserved
tests-preserved c =
    c.later-last.ensures ∙ (ap₂ greater c.tests.invariant c.last_in_truth.ensures ∙ sym (last_more c.args.tests.now c.tests.test-index c.test-item.result c.tests-test.true c.test-item.is))

pub returns : goal.returns
returns c = c.tests.invariant ∙ ap (λ ts. greatest (tests_leaves ts)) (take_all c.tests.test-index c.args.tests.now c.tests-test.false)
