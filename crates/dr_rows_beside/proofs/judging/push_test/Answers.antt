use Rattle.dr_nested.specs.PathView.{paths_view}
use Rattle.dr_rows_beside.proofs.MakingLemmas.{greatest_alone, one_pushed}
use Rattle.dr_rows_beside.proofs.judging.push_test.Goals as goal

pub of-requires-clause-last : goal.of-requires-clause-last
of-requires-clause-last c = greatest_alone c.args.truth.now c.from_ref.result.now c.last_leaf_of_tests.result c.in-Some.last c.from_ref.ensures.value c.last_leaf_of_tests.ensures c.in-Some.is

pub returns-in_ok-push-in-Some : goal.returns-in_ok-push-in-Some
returns-in_ok-push-in-Some c =
    one_pushed (paths_view c.args.leaves.now) c.args.truth.now c.args.out.now.items c.push.new.self.items c.in_ok-of-in-Some.field-0 c.in-Some.last
    (greatest_alone c.args.truth.now c.from_ref.result.now c.last_leaf_of_tests.result c.in-Some.last c.from_ref.ensures.value c.last_leaf_of_tests.ensures c.in-Some.is)
    c.in_ok-push-in-Some.ensures.items c.in_ok-of-in-Some.ensures
