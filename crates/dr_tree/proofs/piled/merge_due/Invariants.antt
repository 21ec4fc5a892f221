use Rattle.dr_tree.specs.Piles.{CanMerge, StaysPile}
use Rattle.dr_tree.proofs.piled.merge_due.Given as goal

-- what is left of the pile merges to the same
abbrev pub invariant-merges : goal.invariant-merges
invariant-merges l = CanMerge l.pile.items × StaysPile l.initial.pile.items l.pile.items
