use Rattle.std.proofs.Common.{◌≡◌, drop}
use Rattle.dr_group.specs.Maps.{gatherings_view, tuples_view}
use Rattle.dr_columns.specs.LeafRowsView.{leaf_left}
use Rattle.dr_columns.specs.Numbers.{value_puts, tuples_at, LeavesToPut}
use Rattle.dr_columns.proofs.leaf_groups.take_leaf.Given as goal

-- the values of the numbers before this one are taken
abbrev pub invariant-numbers : goal.invariant-numbers
invariant-numbers l = record {
  put : LeavesToPut l.initial.groups (value_puts l.aggregate (tuples_at (tuples_view l.initial.groups) l.numbers) (leaf_left l.initial.rows)) l.groups
      (value_puts l.aggregate (tuples_at (tuples_view l.initial.groups) (drop l.number-index l.numbers)) (leaf_left l.rows));
  gatherings : gatherings_view l.groups ≡ gatherings_view l.initial.groups;
  tuples : tuples_view l.groups ≡ tuples_view l.initial.groups;
}
