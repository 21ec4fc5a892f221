use Rattle.std.proofs.Common.{◌≡◌, List, [], drop}
use Rattle.dr_meaning.specs.Schema.{Fields}
use Rattle.dr_meaning.specs.Path.{Leaf}
use Rattle.dr_meaning.specs.Query.{Levels}
use Rattle.dr_meaning.specs.Binding as binding
use Rattle.dr_planning.specs.NamedLevels.{joined, levels_view}
use Rattle.dr_resolve.specs.Faults.{earlier, first_view}
use Rattle.dr_resolve.specs.Items.{AreItems}
use Rattle.dr_planning.proofs.RuleLemmas.{items_before}
use Rattle.dr_planning.proofs.rules.note_duplicates.Given as goal

-- the first fault so far, with those of the items from here on, is that of all
abbrev pub invariant-items : goal.invariant-items
invariant-items l = (fs : Fields) (ls : List Leaf) (tree : Levels) (bs : List binding.BoundItem) → levels_view l.levels ≡ joined tree → AreItems fs ls bs l.items
    → earlier (first_view l.first) (binding.first_fault (binding.duplicates_behind tree l.is_record_query bs (items_before [] bs l.number) (drop l.number bs)))
    ≡ earlier (first_view l.fn.first) (binding.first_fault (binding.duplicate_faults tree l.is_record_query bs))
