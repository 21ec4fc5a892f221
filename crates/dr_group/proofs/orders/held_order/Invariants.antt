use Rattle.dr_group.specs.Views.{cell_view}
use Rattle.dr_group.proofs.OrderLemmas.{SameSoFar}
use Rattle.dr_group.proofs.orders.held_order.Given as goal

-- the order of the cells from here on is that of all
abbrev pub invariant-cells : goal.invariant-cells
invariant-cells l = SameSoFar cell_view l.left l.right l.number
