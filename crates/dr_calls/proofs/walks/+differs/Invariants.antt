use Rattle.std.proofs.Common.{length}
use Rattle.dr_calls.proofs.walks.+differs.Given as goal

abbrev pub decreases-differs : goal.decreases-differs
decreases-differs l = length l.others.now
