use Rattle.dr_prune.proofs.PrunedLemmas.{answers_stay}
use Rattle.dr_prune.proofs.pruner_laws.answers_stay.Goals as goal

pub returns : goal.returns
returns c = answers_stay
