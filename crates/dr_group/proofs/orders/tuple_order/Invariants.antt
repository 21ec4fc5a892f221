use Rattle.dr_group.specs.Views.{lent_cell}
use Rattle.dr_group.proofs.OrderLemmas.{SameSoFar}
use Rattle.dr_group.proofs.orders.tuple_order.Given as goal

-- the order of the cells from here on is that of all
abbrev pub invariant-cells : goal.invariant-cells
invariant-cells l = SameSoFar lent_cell l.left l.right l.number
