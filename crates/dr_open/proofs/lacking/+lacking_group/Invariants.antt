use Rattle.std.proofs.Common.{length}
use Rattle.dr_open.proofs.lacking.+lacking_group.Given as goal

-- a group for each name
abbrev pub decreases-lacking_group : goal.decreases-lacking_group
decreases-lacking_group l = length l.names.now
