use Rattle.std.proofs.Common.{option_map}
use Rattle.dr_plan.specs.Fitting.{expr_fits}
use Rattle.dr_plan.specs.Views.{expr_view}
use Rattle.dr_scalar.specs.Leaves.{expr_leaves}
use Rattle.dr_scalar.specs.OverSlots.{expr_over}
use Rattle.dr_scalar.specs.Slots.{slot_value}
use Rattle.dr_scalar.specs.Views.{evaluated_view}
use Rattle.dr_scalar.proofs.LeafLemmas.{slots_are_read}
use Rattle.dr_scalar.proofs.TestLemmas.{told, leaves_tell}
use Rattle.dr_scalar.proofs.evaluating.eval.Goals as goal

pub returns-clause-meant : goal.returns-clause-meant
returns-clause-meant c =
    let row = c.args.row.now in
    let e = c.args.expression.now in
    told c.value_of.result (option_map evaluated_view) (expr_over (slot_value row) e) row (λ ls. expr_fits ls e) (λ ls. expr_view ls e)
    (λ ls r v h. leaves_tell ls e (slot_value row) r h v.types (slots_are_read ls row r v (expr_leaves e))) c.value_of.ensures
