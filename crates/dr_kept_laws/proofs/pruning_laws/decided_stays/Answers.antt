use Rattle.dr_kept_laws.proofs.DecidedLemmas.{decided_stays}
use Rattle.dr_kept_laws.proofs.pruning_laws.decided_stays.Goals as goal

pub returns : goal.returns
returns c = decided_stays
