use Rattle.std.proofs.Common.{true≢false, sym}
use Rattle.dr_dump.proofs.leaf_records.LeafRecords.start.Goals as goal

pub returns-clause-begun : goal.returns-clause-begun
returns-clause-begun c = λ held F l at. record {
  file = c.in_ok-stream.ensures.file;
  well = c.in_ok-stream.ensures.refused;
  of = λ bytes told. c.in_ok-stream.ensures.begun bytes F l told.0 at;
  last = λ bytes told ended. absurd (true≢false (sym ended));
}
