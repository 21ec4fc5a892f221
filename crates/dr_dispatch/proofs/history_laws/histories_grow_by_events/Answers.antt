use Rattle.dr_dispatch.proofs.HistoryLemmas.{front_is_history, history_goes_on}
use Rattle.dr_dispatch.proofs.history_laws.histories_grow_by_events.Goals as goal

pub returns : goal.returns
returns c = record { front = front_is_history; goes_on = history_goes_on }
