use Rattle.std.proofs.Common.{◌≡◌, List, drop}
use Rattle.std.specs.List.{flat_map}
use Rattle.dr_meaning.specs.Schema.{Fields}
use Rattle.dr_meaning.specs.Path.{Leaf}
use Rattle.dr_meaning.specs.Binding as binding
use Rattle.dr_resolve.specs.Faults.{earlier, first_view}
use Rattle.dr_resolve.specs.Items.{AreItems}
use Rattle.dr_planning.proofs.rules.note_within.Given as goal

-- the first fault so far, with those of the items from here on, is that of all
abbrev pub invariant-items : goal.invariant-items
invariant-items l = (fs : Fields) (ls : List Leaf) (bs : List binding.BoundItem) → AreItems fs ls bs l.items
    → earlier (first_view l.first) (binding.first_fault (flat_map (λ (i : binding.BoundItem). binding.within_faults i.term) (drop l.item-index bs)))
    ≡ earlier (first_view l.fn.first) (binding.first_fault (flat_map (λ (i : binding.BoundItem). binding.within_faults i.term) bs))
