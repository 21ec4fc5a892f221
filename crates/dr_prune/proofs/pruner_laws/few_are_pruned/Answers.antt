use Rattle.dr_prune.proofs.OpenLemmas.{few_are_pruned}
use Rattle.dr_prune.proofs.pruner_laws.few_are_pruned.Goals as goal

pub returns : goal.returns
returns c = few_are_pruned
