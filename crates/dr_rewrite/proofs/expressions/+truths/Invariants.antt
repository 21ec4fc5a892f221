use Rattle.std.proofs.Common.{◌+◌, ◌*◌, max}
use Rattle.dr_plan.specs.declared.expression.Truth.{size-Truth}
use Rattle.dr_rewrite.proofs.expressions.+truths.Given as goal

abbrev pub decreases-push_truth_of : goal.decreases-push_truth_of
decreases-push_truth_of l = 2 * size-Truth l.truth.now

-- two operands, neither of which is deeper than the other
abbrev pub decreases-push_joined : goal.decreases-push_joined
decreases-push_joined l = 2 * max (size-Truth l.left.now) (size-Truth l.right.now) + 1
