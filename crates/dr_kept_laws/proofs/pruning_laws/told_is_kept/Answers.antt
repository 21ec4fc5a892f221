use Rattle.dr_kept_laws.proofs.TellingLemmas.{told_is_kept}
use Rattle.dr_kept_laws.proofs.pruning_laws.told_is_kept.Goals as goal

pub returns : goal.returns
returns c = told_is_kept
