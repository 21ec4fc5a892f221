use Rattle.std.proofs.Common.{arith, ◌≤◌, length}
use Rattle.dr_levels.specs.Views.{column_view}
use Rattle.dr_levels.proofs.DenseLemmas.{joined_length}
use Rattle.dr_levels.specs.Dense.{values_view}
use Rattle.dr_agreement.proofs.AtHandLemmas.{passed_on}
use Rattle.dr_agreement.proofs.at_hand.AtHand.pass.Goals as goal

pub overflow_add-self : goal.overflow_add-self
overflow_add-self c =
    let x = c.args.self.now in
    let p = passed_on (column_view x.column) x.passed x.begun c.args.count c.args.records x.within x.counted c.requires in
    let n = joined_length x.column.greatest x.column.levels.items (values_view x.column.values) in
    let l : length x.column.levels.items ≤ x.column.levels.len = omega (arith, x.column.levels.ok.0) in
    omega (arith, p.0, n, x.column.levels.ok.0, x.column.levels.small)

pub overflow_sub-self : goal.overflow_sub-self
overflow_sub-self c =
    let x = c.args.self.now in
    (passed_on (column_view x.column) x.passed x.begun c.args.count c.args.records x.within x.counted c.requires).1

pub invariant_of-self-clause-within : goal.invariant_of-self-clause-within
invariant_of-self-clause-within c =
    let x = c.args.self.now in
    (passed_on (column_view x.column) x.passed x.begun c.args.count c.args.records x.within x.counted c.requires).0

pub invariant_of-self-clause-counted : goal.invariant_of-self-clause-counted
invariant_of-self-clause-counted c =
    let x = c.args.self.now in
    (passed_on (column_view x.column) x.passed x.begun c.args.count c.args.records x.within x.counted c.requires).2
