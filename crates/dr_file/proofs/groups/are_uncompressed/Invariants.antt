use Rattle.std.proofs.Common.{◌≡◌, map, drop}
use Rattle.std.specs.List.{list_all}
use Rattle.dr_meta.specs.Views.{group_view}
use Rattle.dr_file.specs.Groups.{is_uncompressed_at}
use Rattle.dr_file.proofs.groups.are_uncompressed.Given as goal

-- the chunks so far are not compressed
abbrev pub invariant-groups : goal.invariant-groups
invariant-groups l = list_all (is_uncompressed_at l.place) (map group_view (drop l.group-index l.groups)) ≡ list_all (is_uncompressed_at l.place) (map group_view l.groups)
