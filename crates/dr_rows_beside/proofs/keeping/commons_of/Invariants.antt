use Rattle.std.proofs.Common.{◌≡◌, take}
use Rattle.dr_nested.specs.PathView.{paths_view}
use Rattle.dr_rows_beside.specs.KeptBits.{commons}
use Rattle.dr_rows_beside.proofs.keeping.commons_of.Given as goal

-- those of the leaves before this one are put
abbrev pub invariant-leaves : goal.invariant-leaves
invariant-leaves l = l.made.items ≡ take l.leaf (commons (paths_view l.leaves) l.last)
