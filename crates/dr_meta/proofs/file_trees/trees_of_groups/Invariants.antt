use Rattle.std.proofs.Common.{◌≡◌, map, take}
use Rattle.dr_formats.specs.Metadata.{group_tree}
use Rattle.dr_compact.specs.Views.{tree_view}
use Rattle.dr_meta.specs.Views.{group_view}
use Rattle.dr_meta.proofs.file_trees.trees_of_groups.Given as goal

abbrev pub invariant-groups : goal.invariant-groups
invariant-groups l = map tree_view l.trees.items ≡ map (λ x. group_tree (group_view x)) (take l.group-index l.groups)
