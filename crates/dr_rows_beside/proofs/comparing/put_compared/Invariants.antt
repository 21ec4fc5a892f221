use Rattle.std.proofs.Common.{◌≡◌, ◌≤◌, ◌-◌, map, take, length, vec_len, vec_capacity}
use Rattle.dr_rows_beside.specs.Comparing.{stands}
use Rattle.dr_rows_beside.proofs.comparing.put_compared.Given as goal

-- in front are the answers of the numbers
abbrev pub invariant-places : goal.invariant-places
invariant-places l = record {
  front : take (length l.numbers) l.out.items ≡ map (stands l.fn.comparison l.literal) l.numbers;
  many : length l.numbers ≤ length l.out.items;
  few : vec_len l.out ≤ length l.levels;
  room : length l.levels ≤ vec_capacity l.out;
}

abbrev pub decreases-places : goal.decreases-places
decreases-places l = length l.levels - vec_len l.out
