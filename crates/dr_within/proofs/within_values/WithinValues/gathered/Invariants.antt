use Rattle.std.proofs.Common.{◌≡◌, List, Some}
use Rattle.dr_meaning.specs.Query.{RecordItem as MeantItem}
use Rattle.dr_plan.specs.Views.{fold_view}
use Rattle.dr_group.specs.Views.{accumulator_view}
use Rattle.dr_within.specs.ObjectFraming.{aggregate_at, AreOfItems}
use Rattle.dr_within.proofs.WithinLemmas.{GathersFront}
use Rattle.dr_within.proofs.within_values.WithinValues.gathered.Given as goal

-- what was gathered for the item in the entries so far
abbrev pub invariant-entries : goal.invariant-entries
invariant-entries l = (items : List MeantItem) → aggregate_at items l.item ≡ Some (fold_view l.fn.fold) → AreOfItems items l.self.entries.items
    → GathersFront items l.item (fold_view l.fn.fold) l.self.entries.items l.entry-index (accumulator_view l.total)
