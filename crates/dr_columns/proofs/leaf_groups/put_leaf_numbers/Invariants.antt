use Rattle.std.proofs.Common.{◌≡◌, ◌++◌, ◌∷◌, [], length, true, Some, None}
use Rattle.std.specs.Prelude.{IfSome}
use Rattle.std.specs.List.{slice_get}
use Rattle.dr_group.specs.Maps.{gatherings_view, tuples_view}
use Rattle.dr_columns.specs.LeafRows.{cell_tuples, cell_groups}
use Rattle.dr_columns.specs.LeafRowsView.{leaf_left}
use Rattle.dr_columns.specs.Numbers.{tuples_at, are_among, LeavesToPut}
use Rattle.dr_columns.proofs.leaf_groups.put_leaf_numbers.Given as goal

-- the groups of the values before the next one are numbered
abbrev pub invariant-rows : goal.invariant-rows
invariant-rows l = record {
  put : LeavesToPut l.initial.groups (cell_groups (leaf_left l.initial.rows)) l.groups (cell_groups (leaf_left l.rows));
  gatherings : gatherings_view l.groups ≡ gatherings_view l.initial.groups;
  numbers : tuples_at (tuples_view l.groups) l.out.items ++ cell_tuples (leaf_left l.rows) ≡ cell_tuples (leaf_left l.initial.rows);
  among : are_among (length (tuples_view l.groups)) l.out.items ≡ true;
  null : IfSome l.of_null (λ n. slice_get (tuples_view l.groups) n ≡ Some (None ∷ []));
}

abbrev pub decreases-rows : goal.decreases-rows
decreases-rows l = length (leaf_left l.rows)
