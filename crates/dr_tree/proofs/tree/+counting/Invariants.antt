use Rattle.std.proofs.Common.{◌≡◌, ◌+◌, length, drop}
use Rattle.dr_partials.specs.Trees.{tablets_of_all}
use Rattle.dr_tree.specs.Views.{trees_view}
use Rattle.dr_tree.proofs.tree.+counting.Given as goal

-- the trees from this one on are still to be counted
abbrev pub invariant-count_all-trees : goal.invariant-count_all-trees
invariant-count_all-trees l = l.total + length (tablets_of_all (trees_view (drop l.tree-index l.trees.items))) ≡ length (tablets_of_all (trees_view l.trees.items))
