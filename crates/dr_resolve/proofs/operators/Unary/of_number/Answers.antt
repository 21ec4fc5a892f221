use Rattle.dr_resolve.proofs.operators.Unary.of_number.Goals as goal

pub returns-in_ok-negative-in-Negative-clause-view : goal.returns-in_ok-negative-in-Negative-clause-view
returns-in_ok-negative-in-Negative-clause-view c = λ ls. rw c.in-Negative.is (c.in_ok-negative-in-Negative.ensures.view ls)
