use Rattle.std.proofs.Common.{ap, ◌∙◌}
use Rattle.std.specs.Prelude.{Some}
use Rattle.dr_compact.proofs.LookLemmas.{numbers_there, no_numbers}
use Rattle.dr_compact.proofs.looking.numbers_of.Goals as goal

pub returns-in-I32s : goal.returns-in-I32s
returns-in-I32s c = ap (λ xs. Some xs) c.as_slice.ensures.value ∙ numbers_there c.args.values.now c.in-I32s.numbers c.in-I32s.is

pub returns-in_default : goal.returns-in_default
returns-in_default c = no_numbers c.args.values.now c.in_default.not-I32s
