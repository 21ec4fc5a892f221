use Rattle.dr_rows_beside.proofs.KeptRowLemmas.{kept_rows_of_records}
use Rattle.dr_rows_beside.proofs.judging_laws.kept_rows_of_records.Goals as goal

pub returns : goal.returns
returns c = kept_rows_of_records
