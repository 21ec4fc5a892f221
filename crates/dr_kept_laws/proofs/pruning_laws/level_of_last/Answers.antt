use Rattle.dr_kept_laws.proofs.LongestChain.{level_of_last}
use Rattle.dr_kept_laws.proofs.pruning_laws.level_of_last.Goals as goal

pub returns : goal.returns
returns c = level_of_last
