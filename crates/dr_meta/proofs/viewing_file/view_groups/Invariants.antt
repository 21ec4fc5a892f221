use Rattle.std.proofs.Common.{map}
use Rattle.dr_formats.specs.Metadata.{view_group}
use Rattle.dr_compact.specs.Views.{tree_view}
use Rattle.dr_meta.specs.Views.{group_view}
use Rattle.dr_meta.proofs.EachLemmas.{Seen}
use Rattle.dr_meta.proofs.viewing_file.view_groups.Given as goal

abbrev pub invariant-groups : goal.invariant-groups
invariant-groups l = Seen tree_view view_group l.trees l.tree-index (map group_view l.groups.items)
