use Rattle.std.proofs.Common.{◌≡◌, ◌++◌, drop, map}
use Rattle.dr_meaning.specs.Automaton as automaton
use Rattle.dr_walk.specs.Views.{picks_view}
use Rattle.dr_walk.proofs.picks.picks_of.Given as goal
use Rattle.dr_nested.specs.PathView.{lent_path}

-- the fields from this one on are still to be picked
abbrev pub invariant-fields : goal.invariant-fields
invariant-fields l = picks_view l.picks.items ++ automaton.picks_from l.place (map lent_path (drop l.place l.fields)) ≡ automaton.picks (map lent_path l.fields)
