use Rattle.std.proofs.Common.{◌≡◌, ◌≤◌, ◌+◌, ◌++◌, length, drop, vec_len, vec_capacity, false}
use Rattle.dr_beside.specs.Spreading.{spread_over}
use Rattle.dr_levels.specs.Apart.{repetitions}
use Rattle.dr_rows_beside.proofs.bits.push_spread.Given as goal

-- the bits of the places before this one are put
abbrev pub invariant-levels : goal.invariant-levels
invariant-levels l = record {
  so_far : l.out.items ++ spread_over l.depth l.now l.rest (drop l.level-index (repetitions l.levels)) ≡ l.fn.out.items ++ spread_over l.depth false l.bits (repetitions l.levels);
  many : vec_len l.out ≡ vec_len l.fn.out + l.level-index;
  room : vec_capacity l.out ≡ vec_capacity l.fn.out;
}
