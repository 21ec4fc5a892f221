use Rattle.std.proofs.Common.{option_map}
use Rattle.dr_plan.specs.Fitting.{text_fits}
use Rattle.dr_plan.specs.Views.{text_view}
use Rattle.dr_scalar.specs.Leaves.{text_leaves}
use Rattle.dr_scalar.specs.OverSlots.{text_over}
use Rattle.dr_scalar.specs.Slots.{slot_value}
use Rattle.dr_scalar.specs.Views.{text_value_view}
use Rattle.dr_scalar.proofs.LeafLemmas.{slots_are_read}
use Rattle.dr_scalar.proofs.TestLemmas.{told}
use Rattle.dr_scalar.proofs.TextLemmas.{text_means}
use Rattle.dr_scalar.proofs.evaluating.text.Goals as goal

pub returns-clause-meant : goal.returns-clause-meant
returns-clause-meant c =
    let row = c.args.row.now in
    let e = c.args.text.now in
    told c.text_of.result (option_map text_value_view) (text_over (slot_value row) e) row (λ ls. text_fits ls e) (λ ls. text_view ls e)
    (λ ls r v h. text_means ls (slot_value row) r v.types e h (slots_are_read ls row r v (text_leaves e))) c.text_of.ensures
