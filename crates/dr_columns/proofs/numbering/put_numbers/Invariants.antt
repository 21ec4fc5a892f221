use Rattle.std.proofs.Common.{◌≡◌, ◌++◌, length, map, true}
use Rattle.dr_group.specs.Maps.{gatherings_view, tuples_view}
use Rattle.dr_rows_beside.specs.RowsView.{rows_view}
use Rattle.dr_columns.specs.RowPuts.{keys_in, groups_in}
use Rattle.dr_columns.specs.Numbers.{tuples_at, are_among, LeavesToPut}
use Rattle.dr_columns.proofs.numbering.put_numbers.Given as goal

-- the groups of the rows before the next one are numbered
abbrev pub invariant-rows : goal.invariant-rows
invariant-rows l = record {
  put : LeavesToPut l.initial.groups (groups_in l.keys (rows_view l.initial.rows)) l.groups (groups_in l.keys (rows_view l.rows));
  gatherings : gatherings_view l.groups ≡ gatherings_view l.initial.groups;
  numbers : tuples_at (tuples_view l.groups) l.out.items ++ map (keys_in l.keys) (rows_view l.rows) ≡ map (keys_in l.keys) (rows_view l.initial.rows);
  among : are_among (length (tuples_view l.groups)) l.out.items ≡ true;
}

abbrev pub decreases-rows : goal.decreases-rows
decreases-rows l = length (rows_view l.rows)
