use Rattle.dr_condition.proofs.KeepLemmas.{never_keeps}
use Rattle.dr_condition.proofs.condition_laws.never_true_keeps_nothing.Goals as goal

pub returns : goal.returns
returns c = never_keeps
