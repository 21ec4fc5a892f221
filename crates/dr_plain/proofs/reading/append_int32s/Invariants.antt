use Rattle.std.proofs.Common.{◌+◌, ◌-◌, ◌≤◌, vec_len, vec_capacity}
use Rattle.dr_plain.proofs.ReadSteps.{Numbers}
use Rattle.dr_plain.proofs.reading.append_int32s.Given as goal

abbrev pub invariant-numbers : goal.invariant-numbers
invariant-numbers l = record {
  room : vec_len l.out + (l.count - l.number-index) ≤ vec_capacity l.out;
  read : Numbers 32 l.numbers l.fn.out.items l.out.items l.number-index;
}
