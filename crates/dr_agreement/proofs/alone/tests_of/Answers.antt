use Rattle.dr_agreement.proofs.AloneLemmas.{tests_push}
use Rattle.dr_agreement.proofs.alone.tests_of.Goals as goal

pub leaves-preserved : goal.leaves-preserved
leaves-preserved c =
    tests_push c.args.leaves.now c.leaves.leaf-index c.leaf-item.result c.leaves.tests.items c.in_ok-of.field-0 c.push.new.self.items c.leaves-test.true c.leaf-item.is c.in_ok-push.ensures.items c.in_ok-of.ensures c.leaves.invariant
