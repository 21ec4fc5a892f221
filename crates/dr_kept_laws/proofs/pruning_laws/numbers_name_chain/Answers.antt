use Rattle.dr_kept_laws.proofs.ChainNumberLemmas.{numbers_name_chain}
use Rattle.dr_kept_laws.proofs.pruning_laws.numbers_name_chain.Goals as goal

pub returns : goal.returns
returns c = numbers_name_chain
