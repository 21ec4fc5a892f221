use Rattle.dr_kept_laws.proofs.OpenNumberLemmas.{open_on_chain}
use Rattle.dr_kept_laws.proofs.pruning_laws.open_on_chain.Goals as goal

pub returns : goal.returns
returns c = open_on_chain
