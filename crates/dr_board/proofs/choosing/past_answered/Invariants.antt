use Rattle.std.proofs.Common.{length, ◌-◌}
use Rattle.dr_board.specs.Shown.{AreAnswered}
use Rattle.dr_board.proofs.choosing.past_answered.Given as goal

abbrev pub invariant-tablets : goal.invariant-tablets
invariant-tablets l = AreAnswered l.place l.tablets

abbrev pub decreases-tablets : goal.decreases-tablets
decreases-tablets l = length l.tablets - l.place
