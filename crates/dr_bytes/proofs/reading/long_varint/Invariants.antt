use Rattle.dr_bytes.proofs.VarintSteps.{Along}
use Rattle.dr_bytes.proofs.reading.long_varint.Given as goal

abbrev pub invariant-bytes : goal.invariant-bytes
invariant-bytes l = Along l.bytes l.count l.sum l.worth
