use Rattle.dr_agreement.proofs.ShallowLemmas.{shallow_stands}
use Rattle.dr_agreement.proofs.shallow.Shallow.may_stand.Goals as goal

pub returns : goal.returns
returns c = λ p h. shallow_stands p c.args.self c.args.before c.args.repetition c.args.definition c.least-least.result h c.least-least.ensures
