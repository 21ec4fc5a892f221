use Rattle.std.proofs.Common.{◌≡◌, ◌++◌, drop}
use Rattle.dr_levels.specs.Orders.{picks_at}
use Rattle.dr_walk.specs.Views.{picks_view}
use Rattle.dr_walk.proofs.picks.picks_behind.Given as goal

-- the picks from this one on are still to be looked at
abbrev pub invariant-picks : goal.invariant-picks
invariant-picks l = picks_view l.behind.items ++ picks_at l.place (picks_view (drop l.pick-index l.picks)) ≡ picks_at l.place (picks_view l.picks)
