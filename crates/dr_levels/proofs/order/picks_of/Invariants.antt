use Rattle.std.proofs.Common.{◌≡◌, ◌++◌, map, drop}
use Rattle.dr_meaning.specs.Automaton as automaton
use Rattle.dr_nested.specs.PathView.{path_view}
use Rattle.dr_nested.specs.declared.path.Path.{Path}
use Rattle.dr_levels.specs.Orders.{pick_view}
use Rattle.dr_levels.proofs.order.picks_of.Given as goal

-- the fields from this one on are still to be picked
abbrev pub invariant-fields : goal.invariant-fields
invariant-fields l =
    map pick_view l.picks.items ++ automaton.picks_from l.index (map (λ (p : Path). (path_view p).path) (drop l.index l.fields))
    ≡ automaton.picks (map (λ (p : Path). (path_view p).path) l.fields)
