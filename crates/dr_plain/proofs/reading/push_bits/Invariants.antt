use Rattle.std.proofs.Common.{◌+◌, ◌-◌, ◌≤◌, vec_len, vec_capacity}
use Rattle.dr_plain.proofs.ReadSteps.{Truths}
use Rattle.dr_plain.proofs.reading.push_bits.Given as goal

abbrev pub invariant-bits : goal.invariant-bits
invariant-bits l = record {
  room : vec_len l.out + (l.end - l.index) ≤ vec_capacity l.out;
  read : Truths l.bytes l.fn.out.items l.out.items l.start l.index;
}
