use Rattle.std.proofs.Common.{subst}
use Rattle.std.specs.Prelude.{Option, IfSome}
use Rattle.dr_group.specs.Partials.{IsPartialOf}
use Rattle.dr_group.specs.declared.partial.Partial.{Partial}
use Rattle.dr_scan.proofs.rest.join_made.Goals as goal

pub returns-in_ok-merge-in-Some-clause-of_plan : goal.returns-in_ok-merge-in-Some-clause-of_plan
returns-in_ok-merge-in-Some-clause-of_plan c = λ p before mine. c.merge.ensures.of_plan p (subst (λ (o : Option Partial). IfSome o (IsPartialOf p)) c.in-Some.is before)
