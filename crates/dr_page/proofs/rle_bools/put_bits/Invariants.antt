use Rattle.std.proofs.Common.{◌≡◌, ◌+◌, ◌-◌, ◌≤◌, length, take, map, vec_len, vec_capacity}
use Rattle.std.specs.Prelude.{◌==◌}
use Rattle.dr_page.proofs.rle_bools.put_bits.Given as goal

abbrev pub invariant-bits : goal.invariant-bits
invariant-bits l = record {
  room : vec_len l.out + (length l.bits - l.bit-index) ≤ vec_capacity l.out;
  truths : l.out.items ≡ map (λ b. b == 1) (take l.bit-index l.bits);
}
