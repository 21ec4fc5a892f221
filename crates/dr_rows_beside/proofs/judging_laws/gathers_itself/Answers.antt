use Rattle.dr_rows_beside.proofs.BottomLemmas.{gathers_itself}
use Rattle.dr_rows_beside.proofs.judging_laws.gathers_itself.Goals as goal

pub returns : goal.returns
returns c = gathers_itself
