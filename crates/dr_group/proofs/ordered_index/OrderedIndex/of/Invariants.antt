use Rattle.std.proofs.Common.{map, take}
use Rattle.dr_group.specs.Groups.{group_view}
use Rattle.dr_group.specs.Keys.{AreNumbered}
use Rattle.dr_group.specs.Distinct.{tuples_of}
use Rattle.dr_group.proofs.ordered_index.OrderedIndex.of.Given as goal

-- the groups before this one
abbrev pub invariant-groups : goal.invariant-groups
invariant-groups l = AreNumbered l.numbers (tuples_of (map group_view (take l.number l.groups)))
