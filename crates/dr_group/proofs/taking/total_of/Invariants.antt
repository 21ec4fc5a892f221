use Rattle.std.proofs.Common.{◌≡◌, ◌*◌, drop, pos, ◌+ℤ◌, neg_ℤ, ◌≤ℤ◌}
use Rattle.dr_group.specs.TakenValues.{sum_of}
use Rattle.dr_group.proofs.taking.total_of.Given as goal

-- the sum of those before this one, and those still to be added
abbrev pub invariant-numbers : goal.invariant-numbers
invariant-numbers l = record {
  put : l.total +ℤ sum_of (drop l.number-index l.numbers) ≡ sum_of l.numbers;
  above : neg_ℤ (pos (9223372036854775808 * l.number-index)) ≤ℤ l.total;
  below : l.total ≤ℤ pos (9223372036854775808 * l.number-index);
}
