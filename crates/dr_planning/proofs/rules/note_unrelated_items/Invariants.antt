use Rattle.std.proofs.Common.{◌≡◌, List, drop}
use Rattle.std.specs.List.{flat_map}
use Rattle.dr_meaning.specs.Schema.{Fields}
use Rattle.dr_meaning.specs.Path.{Leaf}
use Rattle.dr_meaning.specs.BoundExpression as meant
use Rattle.dr_meaning.specs.Binding as binding
use Rattle.dr_resolve.specs.Faults.{earlier, first_view}
use Rattle.dr_resolve.specs.Items.{AreItems}
use Rattle.dr_planning.specs.Rules.{IsChain}
use Rattle.dr_planning.proofs.rules.note_unrelated_items.Given as goal

-- the first fault so far, with those of the items from here on, is that of all
abbrev pub invariant-items : goal.invariant-items
invariant-items l = (fs : Fields) (ls : List Leaf) (ks : meant.Checked (List meant.BoundPath)) (bs : List binding.BoundItem) → IsChain ks l.chain → AreItems fs ls bs l.items
    → earlier (first_view l.first) (binding.first_fault (flat_map (λ (i : binding.BoundItem). binding.unrelated_in_term ks i.term) (drop l.item-index bs)))
    ≡ earlier (first_view l.fn.first) (binding.first_fault (flat_map (λ (i : binding.BoundItem). binding.unrelated_in_term ks i.term) bs))
