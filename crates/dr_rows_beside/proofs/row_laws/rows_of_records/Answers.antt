use Rattle.dr_rows_beside.proofs.RecordRowLemmas.{rows_of_records}
use Rattle.dr_rows_beside.proofs.row_laws.rows_of_records.Goals as goal

pub returns : goal.returns
returns c = rows_of_records
