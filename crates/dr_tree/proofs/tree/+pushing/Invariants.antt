use Rattle.std.proofs.Common.{◌≡◌, ◌++◌, drop}
use Rattle.dr_partials.specs.Trees.{tablets_of_all}
use Rattle.dr_tree.specs.Views.{trees_view}
use Rattle.dr_tree.proofs.tree.+pushing.Given as goal

-- the tablets of the trees from this one on are still to be pushed
abbrev pub invariant-push_all-trees : goal.invariant-push_all-trees
invariant-push_all-trees l = l.tablets.items ++ tablets_of_all (trees_view (drop l.tree-index l.trees.items))
    ≡ l.initial.tablets.items ++ tablets_of_all (trees_view l.trees.items)
