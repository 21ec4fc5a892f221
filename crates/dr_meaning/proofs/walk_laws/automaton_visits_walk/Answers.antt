use Rattle.dr_meaning.proofs.VisitLemmas.{automaton_visits_walk}
use Rattle.dr_meaning.proofs.walk_laws.automaton_visits_walk.Goals as goal

pub returns : goal.returns
returns c = automaton_visits_walk
