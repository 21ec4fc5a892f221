use Rattle.std.proofs.Common.{◌+◌, ◌*◌, length}
use Rattle.dr_tree.proofs.halved.+halving.Given as goal

abbrev pub decreases-merge_all : goal.decreases-merge_all
decreases-merge_all g l = 3 * length l.before.items

abbrev pub decreases-merge_halves : goal.decreases-merge_halves
decreases-merge_halves g l = 3 * (length l.front.items + length l.behind.items) + 2

abbrev pub decreases-merge_halves-mine : goal.decreases-merge_halves-mine
decreases-merge_halves-mine g l = 3 * length l.front.items + 1

abbrev pub decreases-merge_halves-theirs : goal.decreases-merge_halves-theirs
decreases-merge_halves-theirs g l = 3 * length l.behind.items + 1
