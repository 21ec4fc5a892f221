use Rattle.std.proofs.Common.{length}
use Rattle.dr_stages.proofs.through.+partial_through.Given as goal

-- how many queries are left
abbrev pub decreases-partial_through : goal.decreases-partial_through
decreases-partial_through l = length l.others.now
