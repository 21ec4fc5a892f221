use Rattle.std.proofs.lemmas.Result.{err_from_is_err_and}
use Rattle.dr_file.proofs.OpeningLemmas.{no_schema}
use Rattle.dr_file.proofs.schema.meta_schema.Goals as goal

pub returns-in_err-whole_leaves-clause-fault : goal.returns-in_err-whole_leaves-clause-fault
returns-in_err-whole_leaves-clause-fault c = λ place.
    let p = err_from_is_err_and c.from_residual.result c.from_residual.ensures.1 in
    rw (p.1, p.2) (no_schema c.in_err-whole_leaves.field-0.0 _ (c.in_err-whole_leaves.ensures.fault place))
