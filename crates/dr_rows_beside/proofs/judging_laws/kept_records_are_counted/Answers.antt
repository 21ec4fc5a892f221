use Rattle.dr_rows_beside.proofs.KeptRowLemmas.{kept_records_are_counted}
use Rattle.dr_rows_beside.proofs.judging_laws.kept_records_are_counted.Goals as goal

pub returns : goal.returns
returns c = kept_records_are_counted
