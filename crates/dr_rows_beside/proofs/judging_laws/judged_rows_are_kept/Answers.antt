use Rattle.dr_rows_beside.proofs.KeptLemmas.{judged_rows_are_kept}
use Rattle.dr_rows_beside.proofs.judging_laws.judged_rows_are_kept.Goals as goal

pub returns : goal.returns
returns c = judged_rows_are_kept
