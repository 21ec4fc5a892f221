use Rattle.dr_kept_laws.proofs.LeavingsKept.{leavings_are_kept}
use Rattle.dr_kept_laws.proofs.pruning_laws.leavings_are_kept.Goals as goal

pub returns : goal.returns
returns c = leavings_are_kept
