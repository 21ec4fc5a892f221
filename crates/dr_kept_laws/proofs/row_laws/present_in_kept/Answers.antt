use Rattle.dr_kept_laws.proofs.RowsOfKeptLaws.{present_in_kept}
use Rattle.dr_kept_laws.proofs.row_laws.present_in_kept.Goals as goal

pub returns : goal.returns
returns c = present_in_kept
