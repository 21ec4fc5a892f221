use Rattle.std.proofs.Common.{◌+◌, ◌*◌, max}
use Rattle.dr_sql.specs.declared.expression.Expression.{size-Expression}
use Rattle.dr_resolve.proofs.names.Binder.+expressions.Given as goal

abbrev pub decreases-expression : goal.decreases-expression
decreases-expression l = 2 * size-Expression l.expression.now

abbrev pub decreases-one : goal.decreases-one
decreases-one l = 2 * size-Expression l.operand.now + 1

-- two operands, neither of which is deeper than the other
abbrev pub decreases-two : goal.decreases-two
decreases-two l = 2 * max (size-Expression l.left.now) (size-Expression l.right.now) + 1
