use Rattle.dr_condition.proofs.OpenLemmas.{few_are_watched}
use Rattle.dr_condition.proofs.condition_laws.few_are_watched.Goals as goal

pub returns : goal.returns
returns c = few_are_watched
