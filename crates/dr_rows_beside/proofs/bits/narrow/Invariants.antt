use Rattle.std.proofs.Common.{◌≡◌, ◌<◌, ◌-◌, ◌++◌, take, drop, get_or, false}
use Rattle.dr_beside.specs.Spreading.{spread_over}
use Rattle.dr_levels.specs.Apart.{repetitions}
use Rattle.dr_rows_beside.specs.Bits.{many, each_and}
use Rattle.dr_rows_beside.proofs.bits.narrow.Given as goal

-- the bits before this one are narrowed
abbrev pub invariant-levels : goal.invariant-levels
invariant-levels l = record {
  counted : l.count ≡ many l.depth (take l.at (repetitions l.levels));
  begun : 0 < l.at → 0 < l.count;
  so_far : take l.at l.bits ++ each_and (drop l.at l.bits) (spread_over l.depth (get_or l.answers (l.count - 1) false) (drop l.count l.answers) (drop l.at (repetitions l.levels)))
      ≡ each_and l.fn.bits (spread_over l.depth false l.answers (repetitions l.levels));
}
