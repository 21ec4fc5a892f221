use Rattle.dr_scalar.proofs.TestLemmas.{told_each, told_condition}
use Rattle.dr_scalar.proofs.evaluating.passes.Goals as goal

pub returns-clause-each : goal.returns-clause-each
returns-clause-each c = told_each c.all_are_true.result c.args.row.now c.args.tests.now c.all_are_true.ensures

pub returns-clause-condition : goal.returns-clause-condition
returns-clause-condition c = told_condition c.all_are_true.result c.args.row.now c.args.tests.now c.all_are_true.ensures
