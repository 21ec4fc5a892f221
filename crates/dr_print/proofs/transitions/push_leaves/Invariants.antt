use Rattle.std.proofs.Common.{string_bytes}
use Rattle.dr_print.proofs.AutomatonLemmas.{Leaves}
use Rattle.dr_print.proofs.transitions.push_leaves.Given as goal

abbrev pub invariant-leaves : goal.invariant-leaves
invariant-leaves l = Leaves l.leaves l.place (string_bytes l.fn.text) (string_bytes l.text)
