use Rattle.std.specs.Prelude.{option_map}
use Rattle.dr_compact.specs.Views.{item_view}
use Rattle.dr_compact.proofs.LookLemmas.{Finds}
use Rattle.dr_compact.proofs.tree.Tree.find.Given as goal

abbrev pub invariant-fields : goal.invariant-fields
invariant-fields l = Finds l.id l.field-items l.field-index (option_map (λ x. item_view x.now) l.found)
