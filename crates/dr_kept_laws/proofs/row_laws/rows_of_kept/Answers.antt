use Rattle.dr_kept_laws.proofs.RowsOfKeptLaws.{rows_of_kept}
use Rattle.dr_kept_laws.proofs.row_laws.rows_of_kept.Goals as goal

pub returns : goal.returns
returns c = rows_of_kept
