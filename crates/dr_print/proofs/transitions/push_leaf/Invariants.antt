use Rattle.std.proofs.Common.{string_bytes}
use Rattle.dr_meaning.specs.Path.{max_repetition}
use Rattle.dr_nested.specs.PathView.{path_view}
use Rattle.dr_print.specs.Transitions.{lent_leaves}
use Rattle.dr_print.proofs.AutomatonLemmas.{Levels}
use Rattle.dr_print.proofs.transitions.push_leaf.Given as goal

abbrev pub invariant-levels : goal.invariant-levels
invariant-levels l = Levels (lent_leaves l.leaves) (path_view l.leaf) l.place (max_repetition (path_view l.leaf).path) l.level (string_bytes l.fn.text) (string_bytes l.text)
