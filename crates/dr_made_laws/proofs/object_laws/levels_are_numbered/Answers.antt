use Rattle.dr_made_laws.proofs.NumberLemmas.{levels_are_numbered}
use Rattle.dr_made_laws.proofs.object_laws.levels_are_numbered.Goals as goal

pub returns : goal.returns
returns c = levels_are_numbered
