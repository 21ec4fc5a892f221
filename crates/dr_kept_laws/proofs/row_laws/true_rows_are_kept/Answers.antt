use Rattle.dr_kept_laws.proofs.RowsOfKeptLaws.{true_rows_are_kept}
use Rattle.dr_kept_laws.proofs.row_laws.true_rows_are_kept.Goals as goal

pub returns : goal.returns
returns c = true_rows_are_kept
