use Rattle.dr_meaning.proofs.OneColumnLemmas.{columns_recognized}
use Rattle.dr_meaning.proofs.column_laws.columns_are_recognized.Goals as goal

pub returns : goal.returns
returns c = columns_recognized
