use Rattle.std.proofs.Common.{◌∙◌}
use Rattle.dr_scalar.specs.Leaves.{number_leaves}
use Rattle.dr_scalar.specs.Slots.{slot_value}
use Rattle.dr_scalar.proofs.LeafLemmas.{slots_are_read}
use Rattle.dr_scalar.proofs.NumberLemmas.{number_means}
use Rattle.dr_scalar.proofs.evaluating.number.Goals as goal

pub returns-clause-meant : goal.returns-clause-meant
returns-clause-meant c =
    let row = c.args.row.now in
    let e = c.args.number.now in
    λ ls r v h. c.number_of.ensures ∙ number_means ls (slot_value row) r v.types e h (slots_are_read ls row r v (number_leaves e))
