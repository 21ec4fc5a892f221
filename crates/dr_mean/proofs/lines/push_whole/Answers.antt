use Rattle.std.proofs.Common.{refl, []}
use Rattle.dr_nested.specs.Views.{node_view}
use Rattle.dr_plan.specs.Objects.{object_view}
use Rattle.dr_rows.specs.Views.{row_view, rows_view}
use Rattle.dr_mean.proofs.LineLemmas.{whole_row}
use Rattle.dr_mean.proofs.WithinLemmas.{on_ok_by}
use Rattle.dr_mean.proofs.lines.push_whole.Goals as goal

pub returns : goal.returns
returns c =
    let ls = c.args.items.leaves.now in
    let n = node_view c.args.whole.now in
    on_ok_by c.push_object.result _ _ c.push_object.ensures (λ pushed. λ plan s.
    pushed [] n (whole_row plan ls c.args.items.items.now (object_view c.args.object.now) n (rows_view c.in_ok-rows.rows) _ (row_view c.row.result) s c.in_ok-rows.ensures.rows c.row.ensures.row) refl s.nested)
