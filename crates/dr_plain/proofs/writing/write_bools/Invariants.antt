use Rattle.std.proofs.Common.{◌+◌, ◌-◌, ◌≤◌, length, vec_len, vec_capacity}
use Rattle.dr_formats.specs.LittleEndian.{bytes_for}
use Rattle.dr_plain.proofs.WriteSteps.{Bools}
use Rattle.dr_plain.proofs.writing.write_bools.Given as goal

abbrev pub invariant-bytes : goal.invariant-bytes
invariant-bytes l = record {
  room : vec_len l.out + bytes_for (length l.values - l.done) ≤ vec_capacity l.out;
  written : Bools l.values l.fn.out.items l.out.items l.done;
}

abbrev pub decreases-bytes : goal.decreases-bytes
decreases-bytes l = length l.values - l.done
