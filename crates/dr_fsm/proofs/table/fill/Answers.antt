use Rattle.std.proofs.Common.{arith, ap, ◌∙◌, ◌++◌, ◌+◌, ◌-◌, ◌<◌, List, length, replicate}
use Rattle.dr_fsm.specs.declared.state.State.{State}
use Rattle.dr_fsm.proofs.RowLemmas.{fill_more}
use Rattle.dr_fsm.proofs.table.fill.Goals as goal

pub levels-preserved : goal.levels-preserved
levels-preserved c =
    let n = c.args.level + 1 in
    let more : length c.levels.row.items < n = omega (arith, c.levels.row.ok.0) in
    ap (λ (xs : List State). xs ++ replicate (n - length xs) c.args.state) c.in_ok-push.ensures.items
    ∙ fill_more c.levels.row.items n c.args.state more
    ∙ c.levels.invariant
