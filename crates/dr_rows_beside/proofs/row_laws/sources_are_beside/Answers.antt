use Rattle.dr_rows_beside.proofs.SourceLemmas.{sources_are_beside}
use Rattle.dr_rows_beside.proofs.row_laws.sources_are_beside.Goals as goal

pub returns : goal.returns
returns c = sources_are_beside
