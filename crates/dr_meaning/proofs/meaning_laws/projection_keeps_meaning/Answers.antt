use Rattle.dr_meaning.proofs.MeaningLemmas.{meaning_of_projection}
use Rattle.dr_meaning.proofs.meaning_laws.projection_keeps_meaning.Goals as goal

pub returns : goal.returns
returns c = meaning_of_projection
