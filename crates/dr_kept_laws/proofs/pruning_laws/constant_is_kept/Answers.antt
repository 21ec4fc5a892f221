use Rattle.dr_kept_laws.proofs.ConstantLemmas.{constant_is_kept}
use Rattle.dr_kept_laws.proofs.pruning_laws.constant_is_kept.Goals as goal

pub returns : goal.returns
returns c = constant_is_kept
