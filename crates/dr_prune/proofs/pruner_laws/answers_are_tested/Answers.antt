use Rattle.dr_prune.proofs.PrunedLemmas.{answers_are_tested}
use Rattle.dr_prune.proofs.pruner_laws.answers_are_tested.Goals as goal

pub returns : goal.returns
returns c = answers_are_tested
