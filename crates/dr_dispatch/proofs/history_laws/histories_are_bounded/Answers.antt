use Rattle.dr_dispatch.proofs.BoundLemmas.{history_is_bounded}
use Rattle.dr_dispatch.proofs.history_laws.histories_are_bounded.Goals as goal

pub returns : goal.returns
returns c = history_is_bounded
