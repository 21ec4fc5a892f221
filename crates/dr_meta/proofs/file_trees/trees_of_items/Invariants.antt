use Rattle.std.proofs.Common.{◌≡◌, map, take}
use Rattle.dr_formats.specs.Metadata.{element_tree}
use Rattle.dr_compact.specs.Views.{tree_view}
use Rattle.dr_meta.specs.Views.{item_view}
use Rattle.dr_meta.proofs.file_trees.trees_of_items.Given as goal

abbrev pub invariant-items : goal.invariant-items
invariant-items l = map tree_view l.trees.items ≡ map (λ x. element_tree (item_view x)) (take l.item-index l.items)
