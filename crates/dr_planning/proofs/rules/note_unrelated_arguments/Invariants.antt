use Rattle.std.proofs.Common.{◌≡◌, List, drop}
use Rattle.std.specs.List.{flat_map}
use Rattle.dr_meaning.specs.Schema.{Fields}
use Rattle.dr_meaning.specs.Path.{Leaf}
use Rattle.dr_meaning.specs.BoundExpression as meant
use Rattle.dr_meaning.specs.Binding as binding
use Rattle.dr_resolve.specs.Faults.{earlier, first_view}
use Rattle.dr_resolve.specs.Items.{AreExpressions}
use Rattle.dr_planning.specs.Rules.{IsChain}
use Rattle.dr_planning.proofs.rules.note_unrelated_arguments.Given as goal

-- the first fault so far, with those of the arguments from here on, is that of all
abbrev pub invariant-arguments : goal.invariant-arguments
invariant-arguments l = (fs : Fields) (ls : List Leaf) (ks : meant.Checked (List meant.BoundPath)) (bs : List meant.BoundExpression) → IsChain ks l.chain → AreExpressions fs ls bs l.arguments
    → earlier (first_view l.first) (binding.first_fault (flat_map (binding.unrelated_behind ks) (drop l.argument-index bs)))
    ≡ earlier (first_view l.fn.first) (binding.first_fault (flat_map (binding.unrelated_behind ks) bs))
