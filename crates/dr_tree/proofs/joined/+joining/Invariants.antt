use Rattle.std.proofs.Common.{◌+◌, ◌*◌, ◌-◌, length}
use Rattle.dr_tree.proofs.joined.+joining.Given as goal

abbrev pub decreases-merge_subtrees : goal.decreases-merge_subtrees
decreases-merge_subtrees g l = 3 * length l.subtrees.items

abbrev pub decreases-merge_both : goal.decreases-merge_both
decreases-merge_both g l = 3 * (length l.front.items + length l.behind.items) - 1

abbrev pub decreases-merge_both-mine : goal.decreases-merge_both-mine
decreases-merge_both-mine g l = 3 * length l.front.items + 1

abbrev pub decreases-merge_both-theirs : goal.decreases-merge_both-theirs
decreases-merge_both-theirs g l = 3 * length l.behind.items + 1
