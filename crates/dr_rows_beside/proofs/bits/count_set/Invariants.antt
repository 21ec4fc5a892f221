use Rattle.std.proofs.Common.{◌≡◌, take}
use Rattle.dr_rows_beside.specs.Bits.{set_bits}
use Rattle.dr_rows_beside.proofs.bits.count_set.Given as goal

-- those before this one are counted
abbrev pub invariant-bits : goal.invariant-bits
invariant-bits l = l.count ≡ set_bits (take l.bit-index l.bits)
