use Rattle.std.proofs.Common.{◌+◌, ◌*◌, ◌<◌}
use Rattle.dr_hybrid.proofs.UnpackLemmas.{Behind}
use Rattle.dr_hybrid.proofs.unpacking.unpack_each.Given as goal

abbrev pub invariant-values : goal.invariant-values
invariant-values g l = record {
  part : l.shift < 8;
  behind : Behind l.bytes l.width l.skipped (g.T.Packable.numbers l.out) l.index (8 * l.place + l.shift);
}
