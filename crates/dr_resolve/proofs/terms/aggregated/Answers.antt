use Rattle.std.proofs.Common.{subst, Option}
use Rattle.dr_plan.specs.Views.{fold_view}
use Rattle.dr_resolve.specs.Bound.{IsExpression}
use Rattle.dr_resolve.specs.Items.{IsWithin}
use Rattle.dr_resolve.specs.Outcomes.{BindsAs, part_of}
use Rattle.dr_resolve.specs.declared.bound.BoundExpression.{BoundExpression}
use Rattle.dr_resolve.specs.declared.terms.WithinPart.{WithinPart}
use Rattle.dr_resolve.proofs.TermLemmas.{no_argument, alone_without, alone_here}
use Rattle.dr_resolve.proofs.terms.aggregated.Goals as goal

pub returns-in-None-clause-term : goal.returns-in-None-clause-term
returns-in-None-clause-term c = λ fs ls d e before between now h k. no_argument fs ls (fold_view c.args.fold) d e before between now (part_of c.args.within)
    (subst (λ (o : Option BoundExpression). BindsAs (IsExpression fs ls) before between d o) c.in-None.is h) k

pub returns-in-None-clause-alone : goal.returns-in-None-clause-alone
returns-in-None-clause-alone c = λ fs ls d e before between now h k. alone_without fs ls d e before between c.args.alone.now.items
    (subst (λ (o : Option BoundExpression). BindsAs (IsExpression fs ls) before between d o) c.in-None.is h)

pub returns-in_ok-push-in-Failed-clause-alone : goal.returns-in_ok-push-in-Failed-clause-alone
returns-in_ok-push-in-Failed-clause-alone c = λ fs ls d e before between now h k.
    alone_here fs ls d e before between now c.in-Some.argument c.args.alone.now.items c.push.new.self.items c.in_ok-push-in-Failed.ensures.items
    (subst (λ (o : Option BoundExpression). BindsAs (IsExpression fs ls) before between d o) c.in-Some.is h)
    (subst (λ (w : WithinPart). BindsAs IsWithin between now e (part_of w)) c.in-Failed.is k)
