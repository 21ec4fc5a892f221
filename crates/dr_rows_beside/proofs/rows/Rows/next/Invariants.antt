use Rattle.std.proofs.Common.{◌≡◌, length}
use Rattle.dr_rows_beside.specs.RowsView.{all_rows_view, rows_view}
use Rattle.dr_rows_beside.proofs.rows.Rows.next.Given as goal

-- no row that comes is passed
abbrev pub invariant-rows : goal.invariant-rows
invariant-rows l = rows_view l.self ≡ rows_view l.fn.self

abbrev pub decreases-rows : goal.decreases-rows
decreases-rows l = length (all_rows_view l.self)
