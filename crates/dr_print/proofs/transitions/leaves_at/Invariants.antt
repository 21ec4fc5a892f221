use Rattle.dr_print.proofs.AutomatonLemmas.{Taken}
use Rattle.dr_print.proofs.transitions.leaves_at.Given as goal

abbrev pub invariant-places : goal.invariant-places
invariant-places l = Taken l.fields l.places l.place-index l.leaves.items
