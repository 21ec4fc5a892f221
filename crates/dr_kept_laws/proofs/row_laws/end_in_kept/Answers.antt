use Rattle.dr_kept_laws.proofs.RowsOfKeptLaws.{end_in_kept}
use Rattle.dr_kept_laws.proofs.row_laws.end_in_kept.Goals as goal

pub returns : goal.returns
returns c = end_in_kept
