use Rattle.std.proofs.Common.{map}
use Rattle.dr_levels.specs.Views.{triplets_view}
use Rattle.dr_levels.specs.Apart.{repetitions}
use Rattle.dr_rows_beside.proofs.JudgingLemmas.{can_answer_at, narrowed_more}
use Rattle.dr_rows_beside.proofs.judging.take_tests.Goals as goal

pub take_test-requires-clause-answers : goal.take_test-requires-clause-answers
take_test-requires-clause-answers c =
    can_answer_at (map triplets_view c.args.columns.now) (repetitions c.args.levels.now) c.args.tests.now c.tests.test-index c.test-item.result c.tests-test.true c.test-item.is c.requires.answers

pub tests-preserved : goal.tests-preserved
tests-preserved c =
    narrowed_more (map triplets_view c.args.columns.now) (repetitions c.args.levels.now) c.args.tests.now c.tests.test-index c.test-item.result c.args.bits.now c.tests.bits c.take_test.new.bits
    c.tests-test.true c.test-item.is c.tests.invariant c.in_ok-take_test.ensures
