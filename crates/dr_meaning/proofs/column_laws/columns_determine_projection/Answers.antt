use Rattle.dr_meaning.proofs.ColumnLemmas.{columns_determine}
use Rattle.dr_meaning.proofs.column_laws.columns_determine_projection.Goals as goal

pub returns : goal.returns
returns c = columns_determine
