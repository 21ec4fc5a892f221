use Rattle.std.proofs.Common.{length}
use Rattle.dr_sub.proofs.binding.+bind_from.Given as goal

-- how many SELECTs are left
abbrev pub decreases-bind_from : goal.decreases-bind_from
decreases-bind_from l = length l.others.now
