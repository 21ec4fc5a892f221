use Rattle.std.proofs.Common.{◌∙◌, ◌++◌, ◌+◌, List, ℕ, drop, ap, arith}
use Rattle.std.specs.List.{flat_map}
use Rattle.dr_columns.specs.Takings.{Take, takings_view, aggregate_leaves}
use Rattle.dr_columns.proofs.FiringLemmas.{read_more, all_read}
use Rattle.dr_columns.proofs.firing.push_read.Goals as goal

pub takings-preserved : goal.takings-preserved
takings-preserved c =
    let ts = c.args.takings.now in
    let i = c.takings.taking-index in
    ap (λ (ks : List ℕ). ks ++ flat_map (λ (t : Take). aggregate_leaves t.aggregate) (takings_view (drop (i + 1) ts))) c.in_ok-push_aggregate.ensures
    ∙ read_more ts i c.taking-item.result c.takings.out.items _ c.takings-test.true c.taking-item.is c.takings.invariant

pub returns : goal.returns
returns c = all_read c.args.takings.now c.takings.taking-index c.takings.out.items _ (omega (arith, c.takings-test.false)) c.takings.invariant
