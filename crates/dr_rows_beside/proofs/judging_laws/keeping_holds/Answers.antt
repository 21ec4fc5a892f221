use Rattle.dr_rows_beside.proofs.KeepsLemmas.{keeping_holds}
use Rattle.dr_rows_beside.proofs.judging_laws.keeping_holds.Goals as goal

pub returns : goal.returns
returns c = keeping_holds
