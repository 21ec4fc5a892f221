use Rattle.std.proofs.Common.{length}
use Rattle.dr_levels.proofs.levels.+common_steps.Given as goal

abbrev pub decreases-common_steps : goal.decreases-common_steps
decreases-common_steps l = length l.one.now
