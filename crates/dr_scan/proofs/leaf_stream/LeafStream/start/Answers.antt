use Rattle.std.proofs.Common.{true≢false, sym, arith}
use Rattle.dr_scan.proofs.leaf_stream.LeafStream.start.Goals as goal

pub returns-clause-begun : goal.returns-clause-begun
returns-clause-begun c = λ held F l e.
    let s = c.in_ok-stream.ensures in
    record {
      file = s.file;
      few = omega (arith, s.few);
      well = s.refused;
      of = λ bytes told. s.begun bytes F l told.0 e;
      last = λ bytes told ended. absurd (true≢false (sym ended));
    }
