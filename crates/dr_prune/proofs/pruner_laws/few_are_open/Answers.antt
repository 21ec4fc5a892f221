use Rattle.dr_prune.proofs.OpenLemmas.{few_are_open}
use Rattle.dr_prune.proofs.pruner_laws.few_are_open.Goals as goal

pub returns : goal.returns
returns c = few_are_open
