use Rattle.std.proofs.Common.{arith, ◌∙◌, drop, ap, sym, subst}
use Rattle.dr_meaning.specs.OneColumn.{starts}
use Rattle.dr_levels.specs.Views.{column_view}
use Rattle.dr_levels.specs.declared.column.Column.{Column}
use Rattle.dr_levels.proofs.DenseLemmas.{joined_length}
use Rattle.dr_levels.specs.Dense.{values_view}
use Rattle.dr_agreement.specs.AtHand.{CanPass}
use Rattle.dr_agreement.proofs.AtHandLemmas.{starts_of_both}
use Rattle.dr_agreement.proofs.at_hand.AtHand.take_back.Goals as goal

pub overflow_add-self : goal.overflow_add-self
overflow_add-self c =
    let x = c.swap.new.x in
    let k = c.args.kept.triplets in
    let kept = subst (λ (y : Column). CanPass (column_view y) k c.args.kept.begun) (sym c.swap.ensures.x_after) c.requires.kept in
    let b = starts_of_both (column_view x) k c.args.kept.begun c.count_records.result kept (c.count_records.ensures ∙ ap starts (c.split_at.ensures.back ∙ ap (drop k) c.triplets.ensures.triplets)) in
    let n = joined_length x.greatest x.levels.items (values_view x.values) in
    omega (arith, b.1, n, x.levels.ok.0, x.levels.small)

pub invariant_of-self-clause-counted : goal.invariant_of-self-clause-counted
invariant_of-self-clause-counted c =
    let x = c.swap.new.x in
    let k = c.args.kept.triplets in
    let kept = subst (λ (y : Column). CanPass (column_view y) k c.args.kept.begun) (sym c.swap.ensures.x_after) c.requires.kept in
    (starts_of_both (column_view x) k c.args.kept.begun c.count_records.result kept (c.count_records.ensures ∙ ap starts (c.split_at.ensures.back ∙ ap (drop k) c.triplets.ensures.triplets))).0
