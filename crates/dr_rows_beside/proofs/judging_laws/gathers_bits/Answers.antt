use Rattle.dr_rows_beside.proofs.BitLemmas.{gathers_bits}
use Rattle.dr_rows_beside.proofs.judging_laws.gathers_bits.Goals as goal

pub returns : goal.returns
returns c = gathers_bits
