use Rattle.std.proofs.Common.{string_bytes}
use Rattle.dr_print.proofs.AutomatonLemmas.{Dotted}
use Rattle.dr_print.proofs.transitions.push_dotted.Given as goal

abbrev pub invariant-names : goal.invariant-names
invariant-names l = Dotted l.names l.name-index (string_bytes l.fn.text) (string_bytes l.text)
