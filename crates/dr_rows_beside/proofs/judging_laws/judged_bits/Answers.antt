use Rattle.dr_rows_beside.proofs.KeptLemmas.{judged_bits}
use Rattle.dr_rows_beside.proofs.judging_laws.judged_bits.Goals as goal

pub returns : goal.returns
returns c = judged_bits
