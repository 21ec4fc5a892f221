use Rattle.dr_dispatch.proofs.HistoryLemmas.{replay_is_history, history_replays_to_itself}
use Rattle.dr_dispatch.proofs.history_laws.replay_is_exact.Goals as goal

pub returns : goal.returns
returns c = record { history = replay_is_history; same = history_replays_to_itself }
