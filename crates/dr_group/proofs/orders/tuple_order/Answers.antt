use Rattle.std.proofs.Common.{◌∙◌, arith, None}
use Rattle.dr_group.specs.Views.{lent_cell}
use Rattle.dr_group.proofs.OrderLemmas.{right_ends, left_ends}
use Rattle.dr_group.proofs.orders.tuple_order.Goals as goal

pub returns-then-number-right : goal.returns-then-number-right
returns-then-number-right c = right_ends lent_cell c.args.left.now c.args.right.now c.cells.number None c.cells-test.true c.if-number-right.true c.cells.invariant

pub returns : goal.returns
returns c = c.cmp.ensures ∙ left_ends lent_cell c.args.left.now c.args.right.now c.cells.number (omega arith) c.cells.invariant
