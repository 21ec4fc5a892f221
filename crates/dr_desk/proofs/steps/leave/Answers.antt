use Rattle.std.proofs.Common.{rules}
use Rattle.dr_desk.proofs.Allowed.{passes}
use Rattle.dr_desk.proofs.steps.leave.Goals as goal

pub split_seat-requires : goal.split_seat-requires
split_seat-requires c = (search rules, search rules, passes _ _ _ c.requires.keeps)
