use Rattle.dr_meaning.specs.BoundExpression.{bind_expression, then_check, of_type, truth_type}
use Rattle.dr_sql.specs.Views as syntax
use Rattle.dr_resolve.specs.Faults.{first_view}
use Rattle.dr_resolve.specs.Outcomes.{fields_in, leaves_in}
use Rattle.dr_resolve.proofs.TermLemmas.{on_ok_if}
use Rattle.dr_resolve.proofs.PartLemmas.{condition_noted}
use Rattle.dr_resolve.proofs.names.Binder.condition.Goals as goal

pub returns-in_ok-value-in-Some-clause-first : goal.returns-in_ok-value-in-Some-clause-first
returns-in_ok-value-in-Some-clause-first c =
    let fs = fields_in c.args.self in
    let ls = leaves_in c.args.self in
    let before = first_view c.args.first.now in
    let now = first_view c.truth_at.new.first in
    let e = bind_expression fs (syntax.expression_view c.in-Some.condition.expression.value) in
    let t = then_check (of_type truth_type c.in-Some.condition.place) e in
    let value = rw c.deref.ensures at c.in_ok-value-in-Some.ensures in
    rw c.in-Some.is (on_ok_if c.truth_at.result _ _ (λ o h. condition_noted fs ls t before now o (h fs ls e before value)) c.truth_at.ensures)
