use Rattle.std.proofs.Common.{ap, ◌∙◌}
use Rattle.dr_within.specs.LevelTable.{Rows, with_row, level_row}
use Rattle.dr_within.proofs.LevelSteps.{row_set}
use Rattle.dr_within.proofs.levels.set.Goals as goal

pub returns : goal.returns
returns c =
    let l = c.args.level in
    row_set c.reach.new.rows.items c.args.number l c.in_ok-reach.ensures.room ∙ ap (λ (t : Rows). with_row c.args.number (level_row l) t) c.in_ok-reach.ensures.same
