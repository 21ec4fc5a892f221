-- Agreements of leaves.
use Rattle.std.specs.Prelude.{List, map}
use Rattle.dr_meaning.specs.Path.{Step}
use Rattle.dr_beside.specs.Neighbours.{AreAllNeighbours}
use Rattle.dr_agreement.specs.declared.agreement.Agreement.{Agreement}
use Rattle.dr_agreement.specs.Outlines.{neighbours_view}

-- it holds the neighbours among these leaves
abbrev pub IsOfLeaves : List (List Step) → Agreement → Type 0
IsOfLeaves F a = AreAllNeighbours F (map neighbours_view a.neighbours.items)
