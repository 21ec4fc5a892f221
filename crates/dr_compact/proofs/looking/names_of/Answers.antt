use Rattle.std.proofs.Common.{ap, ◌∙◌, map}
use Rattle.std.specs.Prelude.{Some}
use Rattle.dr_compact.specs.Views.{lent_bytes}
use Rattle.dr_compact.proofs.LookLemmas.{names_there, no_names}
use Rattle.dr_compact.proofs.looking.names_of.Goals as goal

pub returns-in-Binaries : goal.returns-in-Binaries
returns-in-Binaries c = ap (λ xs. Some (map lent_bytes xs)) c.as_slice.ensures.value ∙ names_there c.args.values.now c.in-Binaries.names c.in-Binaries.is

pub returns-in_default : goal.returns-in_default
returns-in_default c = no_names c.args.values.now c.in_default.not-Binaries
