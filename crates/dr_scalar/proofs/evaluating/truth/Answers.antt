use Rattle.std.proofs.Common.{option_map}
use Rattle.dr_meaning.specs.Record.{bool_value}
use Rattle.dr_plan.specs.Fitting.{truth_fits}
use Rattle.dr_plan.specs.Views.{truth_view}
use Rattle.dr_scalar.specs.Leaves.{truth_leaves}
use Rattle.dr_scalar.specs.OverSlots.{truth_over}
use Rattle.dr_scalar.specs.Slots.{slot_value}
use Rattle.dr_scalar.proofs.LeafLemmas.{slots_are_read}
use Rattle.dr_scalar.proofs.TestLemmas.{told}
use Rattle.dr_scalar.proofs.TruthLemmas.{truth_means}
use Rattle.dr_scalar.proofs.evaluating.truth.Goals as goal

pub returns-clause-meant : goal.returns-clause-meant
returns-clause-meant c =
    let row = c.args.row.now in
    let e = c.args.truth.now in
    told c.truth_of.result (option_map bool_value) (truth_over (slot_value row) e) row (λ ls. truth_fits ls e) (λ ls. truth_view ls e)
    (λ ls r v h. truth_means ls (slot_value row) r v.types e h (slots_are_read ls row r v (truth_leaves e))) c.truth_of.ensures
