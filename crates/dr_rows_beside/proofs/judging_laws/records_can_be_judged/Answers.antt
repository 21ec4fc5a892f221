use Rattle.dr_rows_beside.proofs.JudgeableLemmas.{records_can_be_judged}
use Rattle.dr_rows_beside.proofs.judging_laws.records_can_be_judged.Goals as goal

pub returns : goal.returns
returns c = records_can_be_judged
