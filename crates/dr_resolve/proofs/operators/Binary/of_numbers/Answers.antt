use Rattle.dr_resolve.proofs.operators.Binary.of_numbers.Goals as goal

pub returns-in_ok-add-in-Arithmetic-Plus-clause-view : goal.returns-in_ok-add-in-Arithmetic-Plus-clause-view
returns-in_ok-add-in-Arithmetic-Plus-clause-view c =
    let sign = rw c.in-Arithmetic-Plus.is at c.in-Arithmetic-Plus.field-0-is in
    λ ls. rw (c.in-Arithmetic-Plus.is, sign) (c.in_ok-add-in-Arithmetic-Plus.ensures.view ls)

pub returns-in_ok-subtract-in-Arithmetic-Minus-clause-view : goal.returns-in_ok-subtract-in-Arithmetic-Minus-clause-view
returns-in_ok-subtract-in-Arithmetic-Minus-clause-view c =
    let sign = rw c.in-Arithmetic-Minus.is at c.in-Arithmetic-Minus.field-0-is in
    λ ls. rw (c.in-Arithmetic-Minus.is, sign) (c.in_ok-subtract-in-Arithmetic-Minus.ensures.view ls)

pub returns-in_ok-multiply-in-Arithmetic-Times-clause-view : goal.returns-in_ok-multiply-in-Arithmetic-Times-clause-view
returns-in_ok-multiply-in-Arithmetic-Times-clause-view c =
    let sign = rw c.in-Arithmetic-Times.is at c.in-Arithmetic-Times.field-0-is in
    λ ls. rw (c.in-Arithmetic-Times.is, sign) (c.in_ok-multiply-in-Arithmetic-Times.ensures.view ls)
