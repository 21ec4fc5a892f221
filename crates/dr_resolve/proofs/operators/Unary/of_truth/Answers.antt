use Rattle.dr_resolve.proofs.operators.Unary.of_truth.Goals as goal

pub returns-in_ok-is_null-in-IsNull-clause-view : goal.returns-in_ok-is_null-in-IsNull-clause-view
returns-in_ok-is_null-in-IsNull-clause-view c = λ ls. rw c.in-IsNull.is (c.in_ok-is_null-in-IsNull.ensures.view ls)

pub returns-in_ok-negation-in-Not-clause-view : goal.returns-in_ok-negation-in-Not-clause-view
returns-in_ok-negation-in-Not-clause-view c = λ ls. rw c.in-Not.is (c.in_ok-negation-in-Not.ensures.view ls)
