use Rattle.std.proofs.Common.{map}
use Rattle.dr_nested.specs.PathView.{paths_view}
use Rattle.dr_agreement.specs.Outlines.{neighbours_view}
use Rattle.dr_agreement.proofs.OutlinedLemmas.{FoundUpTo}
use Rattle.dr_agreement.proofs.outlines.neighbours_of.Given as goal

-- neighbours of the leaves before this one are found
abbrev pub invariant-leaves : goal.invariant-leaves
invariant-leaves l = FoundUpTo (paths_view l.leaves) l.leaf (map neighbours_view l.found.items)
