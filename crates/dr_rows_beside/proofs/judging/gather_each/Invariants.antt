use Rattle.dr_levels.specs.Apart.{repetitions}
use Rattle.dr_rows_beside.specs.Judging.{AreGathered}
use Rattle.dr_rows_beside.proofs.judging.gather_each.Given as goal

-- those of the depths before this one are put
abbrev pub invariant-depths : goal.invariant-depths
invariant-depths l = AreGathered (repetitions l.levels) l.bits l.depth l.out
