use Rattle.std.proofs.Common.{◌+◌, ◌*◌}
use Rattle.dr_tree.specs.Views.{tree_view, trees_view}
use Rattle.dr_tree.proofs.ViewLemmas.{size, sizes}
use Rattle.dr_tree.proofs.gathering.+gathering.Given as goal

abbrev pub decreases-gather_last-mine : goal.decreases-gather_last-mine
decreases-gather_last-mine g l = 2 * (size (tree_view l.first.now) + sizes (trees_view l.front.now)) + 3

abbrev pub decreases-gather_last-theirs : goal.decreases-gather_last-theirs
decreases-gather_last-theirs g l = 2 * size (tree_view l.last.now) + 1

abbrev pub decreases-gather_children : goal.decreases-gather_children
decreases-gather_children g l = 2 * (size (tree_view l.first.now) + sizes (trees_view l.rest.now)) + 2

abbrev pub decreases-gather_last : goal.decreases-gather_last
decreases-gather_last g l = 2 * (size (tree_view l.first.now) + sizes (trees_view l.front.now)) + 2 * size (tree_view l.last.now) + 3

abbrev pub decreases-gather_tree : goal.decreases-gather_tree
decreases-gather_tree g l = 2 * size (tree_view l.tree.now)
