use Rattle.std.proofs.Common.{◌≡◌, ◌++◌, map, take, drop}
use Rattle.dr_board.specs.Tablets.{leaf_after}
use Rattle.dr_board.proofs.tablet.mark.Given as goal

abbrev pub invariant-leaves : goal.invariant-leaves
invariant-leaves l = l.leaves ≡ map (leaf_after l.failed l.leaf) (take l.state-index l.initial.leaves) ++ drop l.state-index l.initial.leaves
