use Rattle.std.proofs.Common.{List}
use Rattle.dr_meaning.specs.Query.{RecordItem as MeantItem}
use Rattle.dr_within.specs.ObjectFraming.{AreOfItems}
use Rattle.dr_within.proofs.WithinLemmas.{JoinsFront}
use Rattle.dr_within.proofs.within_values.WithinValues.join_others.Given as goal

-- the entries so far are joined
abbrev pub invariant-entries : goal.invariant-entries
invariant-entries l = (items : List MeantItem) → AreOfItems items l.initial.self.entries.items → AreOfItems items l.more.entries.items
    → JoinsFront items l.own l.more.entries.items l.initial.self.entries.items l.entry-index l.self.entries.items
