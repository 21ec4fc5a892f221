use Rattle.std.proofs.Common.{length}
use Rattle.dr_agreement.proofs.fronts.+common_front.Given as goal

abbrev pub decreases-common_front : goal.decreases-common_front
decreases-common_front l = length l.one.now
