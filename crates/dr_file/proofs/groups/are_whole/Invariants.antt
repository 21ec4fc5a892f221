use Rattle.std.proofs.Common.{◌≡◌, map, drop}
use Rattle.std.specs.List.{list_all}
use Rattle.dr_formats.specs.File.{is_whole_group}
use Rattle.dr_meta.specs.Views.{group_view}
use Rattle.dr_file.proofs.groups.are_whole.Given as goal

-- the row groups so far are whole
abbrev pub invariant-groups : goal.invariant-groups
invariant-groups l = list_all (is_whole_group l.leaves) (map group_view (drop l.group-index l.groups)) ≡ list_all (is_whole_group l.leaves) (map group_view l.groups)
