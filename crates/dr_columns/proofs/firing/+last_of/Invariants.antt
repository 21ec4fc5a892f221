use Rattle.std.proofs.Common.{length}
use Rattle.dr_columns.proofs.firing.+last_of.Given as goal

-- one leaf fewer each time
abbrev pub decreases-last_of : goal.decreases-last_of
decreases-last_of l = length l.leaves.now
