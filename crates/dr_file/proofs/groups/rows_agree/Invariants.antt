use Rattle.std.proofs.Common.{◌≡◌, ◌+◌, ◌≤◌, map, drop}
use Rattle.dr_formats.specs.Metadata.{RowGroup}
use Rattle.dr_formats.specs.File.{total, most_rows}
use Rattle.dr_meta.specs.Views.{group_view}
use Rattle.dr_file.proofs.groups.rows_agree.Given as goal

-- the rows so far, which are not too many, and those of the row groups from this one on
abbrev pub invariant-groups : goal.invariant-groups
invariant-groups l = record {
  few : l.total ≤ most_rows;
  sum : l.total + total (λ (g : RowGroup). g.rows) (map group_view (drop l.group-index l.groups)) ≡ total (λ (g : RowGroup). g.rows) (map group_view l.groups);
}
