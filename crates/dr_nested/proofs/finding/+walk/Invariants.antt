use Rattle.std.proofs.Common.{length}
use Rattle.dr_nested.proofs.finding.+walk.Given as goal

abbrev pub decreases-walk : goal.decreases-walk
decreases-walk l = length l.text.now
