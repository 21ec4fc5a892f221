use Rattle.dr_condition.proofs.KeepLemmas.{parts_tell}
use Rattle.dr_condition.proofs.condition_laws.parts_tell_watch.Goals as goal

pub returns : goal.returns
returns c = parts_tell
