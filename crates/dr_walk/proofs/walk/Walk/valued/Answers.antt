use Rattle.std.proofs.Common.{sym, subst}
use Rattle.std.specs.Prelude.{IfOk}
use Rattle.dr_walk.specs.Walking.{HasLevels}
use Rattle.dr_walk.specs.Valued.{IsKeptFor, IsValued, HasForm}
use Rattle.dr_walk.proofs.walk.Walk.valued.Goals as goal

pub returns-in-Some-clause-valued : goal.returns-in-Some-clause-valued
returns-in-Some-clause-valued c = λ left h k.
    subst (λ m. IsValued left m c.give.result) (sym c.in-Some.is) (c.give.ensures.valued left (subst (HasLevels left) c.in-Some.is h) (subst (IsKeptFor left c.args.self.now.values.items) c.in-Some.is k))

pub returns-in-Some-clause-form : goal.returns-in-Some-clause-form
returns-in-Some-clause-form c = subst (λ m. IfOk c.give.result (HasForm m)) (sym c.in-Some.is) c.give.ensures.form
