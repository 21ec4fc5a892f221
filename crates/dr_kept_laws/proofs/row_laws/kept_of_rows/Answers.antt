use Rattle.dr_kept_laws.proofs.CutRowsLemmas.{kept_of_rows}
use Rattle.dr_kept_laws.proofs.row_laws.kept_of_rows.Goals as goal

pub returns : goal.returns
returns c = kept_of_rows
