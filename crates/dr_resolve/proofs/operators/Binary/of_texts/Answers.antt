use Rattle.dr_resolve.proofs.operators.Binary.of_texts.Goals as goal

pub returns-in_ok-join-in-Arithmetic-Plus-clause-view : goal.returns-in_ok-join-in-Arithmetic-Plus-clause-view
returns-in_ok-join-in-Arithmetic-Plus-clause-view c =
    let sign = rw c.in-Arithmetic-Plus.is at c.in-Arithmetic-Plus.field-0-is in
    λ ls. rw (c.in-Arithmetic-Plus.is, sign) (c.in_ok-join-in-Arithmetic-Plus.ensures.view ls)
