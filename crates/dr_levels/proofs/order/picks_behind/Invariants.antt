use Rattle.std.proofs.Common.{◌≡◌, ◌++◌, map, drop}
use Rattle.dr_levels.specs.Orders.{pick_view, picks_at}
use Rattle.dr_levels.proofs.order.picks_behind.Given as goal

-- the picks from this one on are still to be looked at
abbrev pub invariant-picks : goal.invariant-picks
invariant-picks l = map pick_view l.behind.items ++ picks_at l.place (map pick_view (drop l.pick-index l.picks)) ≡ picks_at l.place (map pick_view l.picks)
