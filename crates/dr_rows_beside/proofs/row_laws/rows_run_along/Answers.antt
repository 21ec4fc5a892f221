use Rattle.dr_rows_beside.proofs.RunLemmas.{rows_run_along}
use Rattle.dr_rows_beside.proofs.row_laws.rows_run_along.Goals as goal

pub returns : goal.returns
returns c = rows_run_along
