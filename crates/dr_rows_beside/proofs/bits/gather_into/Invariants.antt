use Rattle.std.proofs.Common.{◌≡◌, ◌<◌, ◌≤◌, ◌-◌, ◌++◌, take, drop, get_or, false, length}
use Rattle.std.specs.Prelude.{replicate}
use Rattle.dr_levels.specs.Apart.{repetitions}
use Rattle.dr_rows_beside.specs.Bits.{gathered}
use Rattle.dr_rows_beside.proofs.BitLemmas.{closed}
use Rattle.dr_rows_beside.proofs.bits.gather_into.Given as goal

-- the bits before this one are gathered, the last of them as far as it has come
abbrev pub invariant-levels : goal.invariant-levels
invariant-levels l = record {
  few : l.count ≤ l.at;
  begun : 0 < l.at → 0 < l.count;
  clear : drop l.count l.room ≡ replicate (length l.levels - l.count) false;
  so_far : 0 < l.count → take (l.count - 1) l.room ++ closed l.depth (get_or l.room (l.count - 1) false) (drop l.at (repetitions l.levels)) (drop l.at l.bits) ≡ gathered l.depth (repetitions l.levels) l.bits;
}
