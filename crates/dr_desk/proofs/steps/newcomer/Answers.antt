use Rattle.std.proofs.Common.{rules}
use Rattle.dr_desk.proofs.Allowed.{newcomers}
use Rattle.dr_desk.proofs.steps.newcomer.Goals as goal

pub split_seat-requires : goal.split_seat-requires
split_seat-requires c = (search rules, search rules, newcomers _ _ _)
