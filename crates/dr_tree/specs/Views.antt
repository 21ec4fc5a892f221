-- What trees stand for.
use Rattle.std.specs.Prelude.{List, map}
use Rattle.dr_partials.specs.Trees as meant
use Rattle.dr_tree.specs.declared.tree.Tree.{Tree, fold-Tree}
use Rattle.dr_tree.specs.declared.tree.Tree.TheOpen.{Tree-F}

-- one server, whose children have been seen
abbrev pub tree_step : Tree-F meant.Tree → meant.Tree
tree_step (Tree-F.Leaf t) = meant.leaf_server t
tree_step (Tree-F.Inner first rest) = meant.intermediate_server first.value (meant.trees_of rest.items)

abbrev pub tree_view : Tree → meant.Tree
tree_view = fold-Tree meant.Tree tree_step

abbrev pub all_views : List Tree → List meant.Tree
all_views ts = map tree_view ts

-- as the further children of a server
abbrev pub trees_view : List Tree → meant.Trees
trees_view ts = meant.trees_of (all_views ts)
