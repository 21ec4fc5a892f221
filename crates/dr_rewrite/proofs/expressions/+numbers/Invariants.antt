use Rattle.std.proofs.Common.{◌+◌, ◌*◌, max}
use Rattle.dr_plan.specs.declared.expression.Number.{size-Number}
use Rattle.dr_rewrite.proofs.expressions.+numbers.Given as goal

abbrev pub decreases-push_number_of : goal.decreases-push_number_of
decreases-push_number_of l = 2 * size-Number l.number.now

-- two operands, neither of which is deeper than the other
abbrev pub decreases-push_operation : goal.decreases-push_operation
decreases-push_operation l = 2 * max (size-Number l.left.now) (size-Number l.right.now) + 1
