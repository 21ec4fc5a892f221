use Rattle.dr_meaning.proofs.MeaningLemmas.{columns_of_projection}
use Rattle.dr_meaning.proofs.meaning_laws.projection_keeps_columns.Goals as goal

pub returns : goal.returns
returns c = columns_of_projection
