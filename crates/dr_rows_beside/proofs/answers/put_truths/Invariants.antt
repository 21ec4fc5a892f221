use Rattle.std.proofs.Common.{◌≡◌, ◌≤◌, ◌+◌, ◌++◌, length, map, vec_len, vec_capacity}
use Rattle.dr_rows_beside.specs.RowsView.{rows_view}
use Rattle.dr_rows_beside.specs.Answers.{holds_in}
use Rattle.dr_rows_beside.proofs.answers.put_truths.Given as goal

-- the answers in the rows before the next one are put
abbrev pub invariant-rows : goal.invariant-rows
invariant-rows l = record {
  room : vec_len l.out + length (rows_view l.rows) ≤ vec_capacity l.out;
  put : l.out.items ++ map (holds_in l.test) (rows_view l.rows) ≡ l.fn.out.items ++ map (holds_in l.test) (rows_view l.fn.rows);
}

abbrev pub decreases-rows : goal.decreases-rows
decreases-rows l = length (rows_view l.rows)
