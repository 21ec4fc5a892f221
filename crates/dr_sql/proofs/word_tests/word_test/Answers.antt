use Rattle.std.proofs.lemmas.Result.{err_from_is_err_and}
use Rattle.dr_sql.specs.Boxes.{boxed_view}
use Rattle.dr_sql.proofs.word_tests.word_test.Goals as goal

pub returns-in_err-test : goal.returns-in_err-test
returns-in_err-test c =
    let p = err_from_is_err_and c.from_residual.result c.from_residual.ensures.1 in
    rw (p.1, p.2) (c.in_err-test.ensures (boxed_view c.args.operand))
