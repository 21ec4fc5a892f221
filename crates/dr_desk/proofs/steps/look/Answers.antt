use Rattle.std.proofs.Common.{rules}
use Rattle.dr_desk.proofs.Allowed.{looks}
use Rattle.dr_desk.proofs.steps.look.Goals as goal

pub load-requires : goal.load-requires
load-requires c = (search rules, search rules, looks _ _ _ _ c.requires.keeps)
