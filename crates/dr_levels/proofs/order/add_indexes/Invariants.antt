use Rattle.std.proofs.Common.{◌≡◌, ◌++◌, map, take}
use Rattle.dr_meaning.specs.Automaton as automaton
use Rattle.dr_levels.specs.Orders.{pick_view}
use Rattle.dr_levels.proofs.order.add_indexes.Given as goal

-- the places so far have joined
abbrev pub invariant-picks : goal.invariant-picks
invariant-picks l = l.order.items ≡ l.fn.order.items ++ automaton.indexes (map pick_view (take l.pick-index l.picks))
