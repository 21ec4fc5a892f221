use Rattle.std.proofs.Common.{subst}
use Rattle.std.proofs.lemmas.Result.{IfOk-weaker}
use Rattle.dr_meaning.specs.Query.{Aggregate}
use Rattle.dr_meaning.specs.BoundExpression.{together}
use Rattle.dr_meaning.specs.Binding as binding
use Rattle.dr_sql.specs.Views as syntax
use Rattle.dr_resolve.specs.Faults.{first_view}
use Rattle.dr_resolve.specs.Items.{IsTerm}
use Rattle.dr_resolve.specs.Outcomes.{BindsAs, fields_in, leaves_in}
use Rattle.dr_resolve.proofs.TermLemmas.{on_ok_weaker}
use Rattle.dr_resolve.proofs.names.Binder.term.Goals as goal

pub returns-in_ok-within-in-Aggregate-clause-term : goal.returns-in_ok-within-in-Aggregate-clause-term
returns-in_ok-within-in-Aggregate-clause-term c =
    let fs = fields_in c.args.self in
    let ls = leaves_in c.args.self in
    let e = binding.bind_argument fs c.args.place (syntax.aggregate_view c.in-Aggregate.aggregate) (syntax.expression_view c.in-Aggregate.argument.value) in
    let argument = rw c.deref-in-Aggregate.ensures at c.in_ok-argument-in-Aggregate.ensures in
    let w = binding.bind_within fs (syntax.maybe_within c.in-Aggregate.within) in
    rw c.in-Aggregate.is (IfOk-weaker c.aggregated.result _ _
    (λ o h. subst (λ (a : Aggregate). BindsAs (IsTerm fs ls) (first_view c.args.first.now) (first_view c.within-in-Aggregate.new.first) (together (binding.aggregated a) e w) o) c.fold_of.ensures
    (h fs ls e w (first_view c.args.first.now) (first_view c.argument.new.first) (first_view c.within-in-Aggregate.new.first) argument c.in_ok-within-in-Aggregate.ensures))
    c.aggregated.ensures.term)

pub returns-in_ok-within-in-Aggregate-clause-alone : goal.returns-in_ok-within-in-Aggregate-clause-alone
returns-in_ok-within-in-Aggregate-clause-alone c =
    let fs = fields_in c.args.self in
    let ls = leaves_in c.args.self in
    let e = binding.bind_argument fs c.args.place (syntax.aggregate_view c.in-Aggregate.aggregate) (syntax.expression_view c.in-Aggregate.argument.value) in
    let argument = rw c.deref-in-Aggregate.ensures at c.in_ok-argument-in-Aggregate.ensures in
    let w = binding.bind_within fs (syntax.maybe_within c.in-Aggregate.within) in
    rw c.in-Aggregate.is (on_ok_weaker c.aggregated.result _ _
    (λ h. h fs ls e w (first_view c.args.first.now) (first_view c.argument.new.first) (first_view c.within-in-Aggregate.new.first) argument c.in_ok-within-in-Aggregate.ensures)
    c.aggregated.ensures.alone)
