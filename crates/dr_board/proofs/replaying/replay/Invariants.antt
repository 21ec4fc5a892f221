use Rattle.std.proofs.Common.{◌≡◌, drop}
use Rattle.dr_dispatch.specs.History.{replayed, after_events}
use Rattle.dr_board.proofs.replaying.replay.Given as goal

abbrev pub invariant-events : goal.invariant-events
invariant-events l = (l.state.job ≡ l.job) × (replayed l.job l.events ≡ after_events l.job l.state.history (drop l.event-index l.events))
