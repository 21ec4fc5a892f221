use Rattle.std.proofs.Common.{map, take}
use Rattle.dr_nested.specs.PathView.{path_view}
use Rattle.dr_agreement.specs.Alone.{AreTestsOf}
use Rattle.dr_agreement.proofs.alone.tests_of.Given as goal

-- those of the leaves before this one
abbrev pub invariant-leaves : goal.invariant-leaves
invariant-leaves l = AreTestsOf (map path_view (take l.leaf-index l.leaves)) l.tests.items
