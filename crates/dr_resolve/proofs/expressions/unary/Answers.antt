use Rattle.std.proofs.Common.{subst, Option}
use Rattle.dr_resolve.specs.Faults.{first_view}
use Rattle.dr_resolve.specs.Bound.{IsExpression}
use Rattle.dr_resolve.specs.Outcomes.{BindsAs}
use Rattle.dr_resolve.specs.Operators.{unary_type, unary_of}
use Rattle.dr_resolve.specs.declared.bound.BoundExpression.{BoundExpression}
use Rattle.dr_resolve.proofs.ExpressionLemmas.{no_operand}
use Rattle.dr_resolve.proofs.expressions.unary.Goals as goal

pub returns-in-None : goal.returns-in-None
returns-in-None c = λ fs ls d before h. no_operand fs ls c.args.place (unary_type c.args.operator) (unary_of c.args.operator) d before (first_view c.args.first.now)
    (subst (λ (o : Option BoundExpression). BindsAs (IsExpression fs ls) before (first_view c.args.first.now) d o) c.in-None.is h)
