use Rattle.dr_rows_beside.proofs.ExprRowLemmas.{values_of_records}
use Rattle.dr_rows_beside.proofs.row_laws.values_of_records.Goals as goal

pub returns : goal.returns
returns c = values_of_records
