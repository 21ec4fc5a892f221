use Rattle.std.proofs.Common.{◌≡◌, drop}
use Rattle.dr_group.specs.Maps.{gatherings_view, tuples_view}
use Rattle.dr_columns.specs.Numbers.{row_puts, tuples_at, LeavesToPut}
use Rattle.dr_columns.proofs.taking.take_rows.Given as goal

-- the rows of the numbers before this one are taken
abbrev pub invariant-numbers : goal.invariant-numbers
invariant-numbers l = record {
  put : LeavesToPut l.initial.groups (row_puts l.aggregate (tuples_at (tuples_view l.initial.groups) l.numbers)) l.groups (row_puts l.aggregate (tuples_at (tuples_view l.initial.groups) (drop l.number-index l.numbers)));
  gatherings : gatherings_view l.groups ≡ gatherings_view l.initial.groups;
  tuples : tuples_view l.groups ≡ tuples_view l.initial.groups;
}
