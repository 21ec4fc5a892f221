use Rattle.std.proofs.Common.{ap, ◌∙◌}
use Rattle.dr_within.specs.LevelTable.{rows_in}
use Rattle.dr_within.proofs.LevelSteps.{room_more}
use Rattle.dr_within.proofs.levels.reach.Goals as goal

pub rows-preserved : goal.rows-preserved
rows-preserved c = ap rows_in c.in_ok-push.ensures.items ∙ (room_more c.rows.rows.items ∙ c.rows.invariant)
