-- What operators of one and of two operands make, and of which type it is.
use Rattle.std.specs.Prelude.{◌≡◌, ℕ, List, Bool, Option, IfSome}
use Rattle.dr_meaning.specs.Path.{Leaf}
use Rattle.dr_meaning.specs.Expression as meant
use Rattle.dr_meaning.specs.BoundExpression.{BoundExpression, Checked, one_operand, two_operands, ValueType, truth_type, number_type, text_type, type_from, null_test_type, logic_type, comparison_type, arithmetic_type}
use Rattle.dr_plan.specs.Views.{expr_view}
use Rattle.dr_plan.specs.Fitting.{expr_fits}
use Rattle.dr_plan.specs.declared.expression.Expr.{Expr}
use Rattle.dr_sql.specs.TokenViews.{undoubled}
use Rattle.dr_sql.specs.Views.{arithmetic_view, comparison_view}
use Rattle.dr_resolve.specs.declared.operators.Unary.{Unary}
use Rattle.dr_resolve.specs.declared.operators.Binary.{Binary}

abbrev pub unary_type : Unary → ValueType → Option ValueType
unary_type Unary.Negative = type_from number_type number_type
unary_type (Unary.Like t) = type_from text_type truth_type
unary_type (Unary.Contains t) = type_from text_type truth_type
unary_type Unary.IsNull = null_test_type
unary_type Unary.Not = type_from truth_type truth_type

abbrev pub unary_of : Unary → meant.Expression → meant.Expression
unary_of Unary.Negative = meant.negative
unary_of (Unary.Like t) = λ e. meant.like e (undoubled t.now)
unary_of (Unary.Contains t) = λ e. meant.contains e (undoubled t.now)
unary_of Unary.IsNull = meant.is_null
unary_of Unary.Not = meant.negation

abbrev pub binary_type : Binary → ValueType → ValueType → Option ValueType
binary_type (Binary.Arithmetic o) = arithmetic_type (arithmetic_view o)
binary_type (Binary.Comparison c) = comparison_type
binary_type Binary.And = logic_type
binary_type Binary.Or = logic_type

abbrev pub binary_of : Binary → meant.Expression → meant.Expression → meant.Expression
binary_of (Binary.Arithmetic o) = meant.arithmetic (arithmetic_view o)
binary_of (Binary.Comparison c) = meant.comparison (comparison_view c)
binary_of Binary.And = meant.conjunction
binary_of Binary.Or = meant.disjunction

-- what an operator at a place makes of what its operands were bound as
abbrev pub unary_rule : ℕ → Unary → Checked BoundExpression → Checked BoundExpression
unary_rule i o = one_operand i (unary_type o) (unary_of o)

abbrev pub binary_rule : ℕ → Binary → Checked BoundExpression → Checked BoundExpression → Checked BoundExpression
binary_rule i o = two_operands i (binary_type o) (binary_of o)

-- ---- what was made, over the leaves of a plan

-- what was made, if anything, is this expression
abbrev pub IsOver : (List Leaf → meant.Expression) → Option Expr → Type 0
IsOver made o = IfSome o (λ e. (ls : List Leaf) → expr_view ls e ≡ made ls)

-- what was made, if anything, fits where this says so
abbrev pub FitsWhere : (List Leaf → Bool) → Option Expr → Type 0
FitsWhere fits o = IfSome o (λ e. (ls : List Leaf) → expr_fits ls e ≡ fits ls)
