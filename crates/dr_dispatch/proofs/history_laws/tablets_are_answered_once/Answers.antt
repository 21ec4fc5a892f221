use Rattle.dr_dispatch.proofs.HistoryLemmas.{answered_have_answers, answered_are_distinct}
use Rattle.dr_dispatch.proofs.BoundLemmas.{answered_are_tablets}
use Rattle.dr_dispatch.proofs.history_laws.tablets_are_answered_once.Goals as goal

pub returns : goal.returns
returns c = record { answers = answered_have_answers; once = answered_are_distinct; tablets = answered_are_tablets }
