use Rattle.std.proofs.Common.{◌≡◌, ◌<◌, ◌++◌, ◌∷◌, [], length, drop}
use Rattle.dr_partials.specs.Trees.{tablets_of}
use Rattle.dr_tree.specs.Subtrees.{all_piled, tablets_below, tablets_of_each}
use Rattle.dr_tree.specs.Views.{tree_view, trees_view}
use Rattle.dr_tree.proofs.subtree.bare_children.Given as goal

-- the children from this one on are still to be pushed
abbrev pub invariant-children : goal.invariant-children
invariant-children l = (tablets_below l.subtrees.items ++ tablets_of_each (trees_view (drop l.child-index l.rest.items)) ≡ tablets_of (tree_view l.first) ∷ tablets_of_each (trees_view l.rest.items))
    × (0 < length l.subtrees.items) × (all_piled l.subtrees.items ≡ [])
