use Rattle.std.proofs.Common.{arith}
use Rattle.dr_rows.specs.Views.{row_view}
use Rattle.dr_mean.proofs.WithinLemmas.{row_within, if_ok_by}
use Rattle.dr_mean.proofs.objects.rows_at.Goals as goal

pub returns-clause-rows : goal.returns-clause-rows
returns-clause-rows c =
    if_ok_by c.rows_within.result _ _ c.rows_within.ensures.rows (λ t there. λ p whole r d b.
    let at = row_within c.args.leaves.now p c.args.chain.now c.min.result (row_view c.args.row) whole r b (λ h. omega (arith, c.min.ensures)) in
    there whole at.0 at.1)
