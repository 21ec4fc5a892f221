use Rattle.std.proofs.Common.{ap, ◌∙◌, map}
use Rattle.std.specs.Prelude.{Some}
use Rattle.dr_compact.specs.Views.{tree_view}
use Rattle.dr_compact.proofs.LookLemmas.{structs_there, no_structs}
use Rattle.dr_compact.proofs.looking.structs_of.Goals as goal

pub returns-in-Structs : goal.returns-in-Structs
returns-in-Structs c = ap (λ xs. Some (map tree_view xs)) c.as_slice.ensures.value ∙ structs_there c.args.values.now c.in-Structs.structs c.in-Structs.is

pub returns-in_default : goal.returns-in_default
returns-in_default c = no_structs c.args.values.now c.in_default.not-Structs
