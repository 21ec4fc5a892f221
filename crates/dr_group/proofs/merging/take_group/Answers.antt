use Rattle.std.proofs.Common.{refl}
use Rattle.dr_group.proofs.merging.take_group.Goals as goal

pub returns-clause-left : goal.returns-clause-left
returns-clause-left c = (c.replace.new.dest, refl)
