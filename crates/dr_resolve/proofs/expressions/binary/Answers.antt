use Rattle.std.proofs.Common.{subst, sym, Option}
use Rattle.std.proofs.lemmas.Result.{IfOk-weaker}
use Rattle.dr_resolve.specs.Faults.{first_view}
use Rattle.dr_resolve.specs.Bound.{IsExpression}
use Rattle.dr_resolve.specs.Outcomes.{BindsAs}
use Rattle.dr_resolve.specs.Operators.{binary_type, binary_of}
use Rattle.dr_resolve.specs.declared.bound.BoundExpression.{BoundExpression}
use Rattle.dr_resolve.proofs.ExpressionLemmas.{no_pair, left_of_pair, right_of_pair, both_made, binary_joins, binary_is_no_path}
use Rattle.dr_resolve.proofs.expressions.binary.Goals as goal

pub returns-in_default : goal.returns-in_default
returns-in_default c = λ fs ls d e before between h k. no_pair fs ls c.args.place (binary_type c.args.operator) (binary_of c.args.operator) d e before between (first_view c.args.first.now) c.args.left c.args.right (sym c.in_default.ensures) h k

pub returns : goal.returns
returns c = IfOk-weaker c.made_at.result _ _
    (λ o m. λ fs ls d e before between h k. both_made fs ls c.args.place (binary_type c.args.operator) (binary_of c.args.operator) d e before between (first_view c.args.first.now) (first_view c.made_at.new.first)
    c.in-Some.left c.in-Some.right c.into_inner-left.result c.into_inner.result c.in_ok-made.made c.in_ok-paths.paths o c.into_inner-left.ensures c.into_inner.ensures
    (binary_joins c.args.operator) (binary_is_no_path c.args.operator) c.in_ok-made.ensures.typed c.in_ok-made.ensures.view c.in_ok-made.ensures.fits c.in_ok-paths.ensures m
    (subst (λ (o : Option BoundExpression). BindsAs (IsExpression fs ls) before between d o) (left_of_pair c.args.left c.args.right c.in-Some.left c.in-Some.right (sym c.in-Some.ensures)) h)
    (subst (λ (o : Option BoundExpression). BindsAs (IsExpression fs ls) between (first_view c.args.first.now) e o) (right_of_pair c.args.left c.args.right c.in-Some.left c.in-Some.right (sym c.in-Some.ensures)) k))
    c.made_at.ensures
