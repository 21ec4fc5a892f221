use Rattle.std.proofs.Common.{◌≡◌, List, map, drop}
use Rattle.std.specs.List.{flat_map}
use Rattle.dr_meaning.specs.Schema.{Fields}
use Rattle.dr_meaning.specs.Path.{Leaf}
use Rattle.dr_meaning.specs.BoundExpression as meant
use Rattle.dr_meaning.specs.Binding as binding
use Rattle.dr_paths.specs.Views.{bound_path_view}
use Rattle.dr_resolve.specs.Faults.{earlier, first_view}
use Rattle.dr_resolve.specs.Items.{AreItems}
use Rattle.dr_planning.proofs.rules.note_grouping.Given as goal

-- the first fault so far, with those of the items from here on, is that of all
abbrev pub invariant-items : goal.invariant-items
invariant-items l = (fs : Fields) (ls : List Leaf) (ks : List meant.BoundPath) (bs : List binding.BoundItem) → AreItems fs ls bs l.items → map bound_path_view l.keys ≡ ks
    → earlier (first_view l.first) (binding.first_fault (flat_map (binding.grouping_faults ks) (drop l.item-index bs)))
    ≡ earlier (first_view l.fn.first) (binding.first_fault (flat_map (binding.grouping_faults ks) bs))
