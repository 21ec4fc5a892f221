use Rattle.dr_condition.proofs.KeepLemmas.{watched_keeps}
use Rattle.dr_condition.proofs.condition_laws.watched_keeps_query.Goals as goal

pub returns : goal.returns
returns c = watched_keeps
