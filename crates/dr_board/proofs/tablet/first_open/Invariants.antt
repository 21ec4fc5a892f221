use Rattle.std.proofs.Common.{◌≡◌, drop}
use Rattle.dr_board.specs.Tablets.{open_hand}
use Rattle.dr_board.proofs.tablet.first_open.Given as goal

abbrev pub invariant-leaves : goal.invariant-leaves
invariant-leaves l = open_hand l.number l.leaves ≡ open_hand l.number (drop l.state-index l.leaves)
