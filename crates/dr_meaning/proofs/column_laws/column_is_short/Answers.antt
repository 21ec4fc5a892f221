use Rattle.dr_meaning.proofs.ColumnSize.{column_is_short}
use Rattle.dr_meaning.proofs.column_laws.column_is_short.Goals as goal

pub returns : goal.returns
returns c = column_is_short
