use Rattle.std.proofs.Common.{◌≡◌, ◌+◌, ◌≤◌, map, drop}
use Rattle.dr_formats.specs.File.{total, most_triplets, chunk_values}
use Rattle.dr_meta.specs.Views.{group_view}
use Rattle.dr_file.specs.Groups.{chunk_of}
use Rattle.dr_file.proofs.groups.triplets_fit.Given as goal

-- the triplets so far, which are not too many, and those of the row groups from this one on
abbrev pub invariant-groups : goal.invariant-groups
invariant-groups l = record {
  few : l.total ≤ most_triplets;
  sum : l.total + total (λ g. chunk_values (chunk_of l.place g)) (map group_view (drop l.group-index l.groups)) ≡ total (λ g. chunk_values (chunk_of l.place g)) (map group_view l.groups);
}
