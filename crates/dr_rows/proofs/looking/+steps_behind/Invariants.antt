use Rattle.std.proofs.Common.{length}
use Rattle.dr_rows.proofs.looking.+steps_behind.Given as goal

abbrev pub decreases-steps_behind : goal.decreases-steps_behind
decreases-steps_behind l = length l.front.now
