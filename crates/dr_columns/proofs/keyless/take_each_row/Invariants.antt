use Rattle.std.proofs.Common.{◌≡◌, [], length}
use Rattle.dr_group.specs.Maps.{gatherings_view, tuples_view}
use Rattle.dr_rows_beside.specs.ExprRows.{value_in}
use Rattle.dr_columns.specs.RowPuts.{puts_in}
use Rattle.dr_rows_beside.specs.RowsView.{rows_view}
use Rattle.dr_columns.specs.Numbers.{LeavesToPut}
use Rattle.dr_columns.proofs.keyless.take_each_row.Given as goal

-- the rows before the next one are taken
abbrev pub invariant-rows : goal.invariant-rows
invariant-rows l = record {
  put : LeavesToPut l.initial.groups (puts_in [] l.aggregate (value_in l.expression) (rows_view l.initial.rows)) l.groups (puts_in [] l.aggregate (value_in l.expression) (rows_view l.rows));
  gatherings : gatherings_view l.groups ≡ gatherings_view l.initial.groups;
  tuples : tuples_view l.groups ≡ tuples_view l.initial.groups;
}

abbrev pub decreases-rows : goal.decreases-rows
decreases-rows l = length (rows_view l.rows)
