use Rattle.std.proofs.Common.{arith}
use Rattle.std.proofs.lemmas.Option.{slice_get_within}
use Rattle.dr_agreement.proofs.AloneLemmas.{none_at, column_more, as_many_tests}
use Rattle.dr_agreement.proofs.alone.each_alone.Goals as goal

pub returns-then-not-is_column-clause-none : goal.returns-then-not-is_column-clause-none
returns-then-not-is_column-clause-none c = λ e L are.
    none_at L c.args.tests.now c.args.columns.now c.tests.at c.args.records c.index-tests-at-in-tests.result c.index-columns-at-in-tests.result c.is_column.result are c.tests-test.true c.requires c.index-tests-at-in-tests.is
    c.index-columns-at-in-tests.is c.is_column.ensures c.if-not-is_column.true

pub tests-preserved : goal.tests-preserved
tests-preserved c = λ L are.
    column_more L c.args.tests.now c.args.columns.now c.tests.at c.args.records c.index-tests-at-in-tests.result c.index-columns-at-in-tests.result c.is_column.result are c.tests-test.true c.requires c.index-tests-at-in-tests.is
    c.index-columns-at-in-tests.is c.is_column.ensures c.if-not-is_column.false (c.tests.invariant L are)

pub returns-clause-columns : goal.returns-clause-columns
returns-clause-columns c = λ e L are i l at.
    let n = as_many_tests L c.args.tests.now are in
    let k = slice_get_within L i l at in
    c.tests.invariant L are i l (omega (arith, k, n, c.tests-test.false)) at
