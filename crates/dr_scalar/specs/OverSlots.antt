-- The value of a plan's expression, by what was read of each leaf, by the leaves' numbers.
use Rattle.std.specs.Prelude.{ℕ, List, Bool, Option, Some, pos, string_bytes, chars}
use Rattle.std.specs.List.{list_all}
use Rattle.dr_meaning.specs.Record.{Value, bool_value, int_value, text_value}
use Rattle.dr_meaning.specs.Expression.{plus, minus, times, combine, compared, on_both, on_text, subtract_values, matches, occurs_in, not_value, and_values, or_values, null_test, is_true}
use Rattle.dr_meaning.specs.BoundExpression.{truth_type, number_type, text_type}
use Rattle.dr_plan.specs.declared.expression.Number.{Number, fold-Number}
use Rattle.dr_plan.specs.declared.expression.Number.TheOpen.{Number-F}
use Rattle.dr_plan.specs.declared.expression.TextOf.{TextOf, fold-TextOf}
use Rattle.dr_plan.specs.declared.expression.TextOf.TheOpen.{TextOf-F}
use Rattle.dr_plan.specs.declared.expression.Truth.{Truth, fold-Truth}
use Rattle.dr_plan.specs.declared.expression.Truth.TheOpen.{Truth-F}
use Rattle.dr_plan.specs.declared.expression.Expr.{Expr}
use Rattle.dr_plan.specs.Views.{comparison_view}
use Rattle.dr_scalar.specs.Slots.{of_type}

-- one operator of a number, by the values of its operands
abbrev pub number_over_step : (ℕ → Option Value) → Number-F (Option Value) → Option Value
number_over_step read (Number-F.Literal z) = Some (int_value z)
number_over_step read (Number-F.Leaf i) = of_type number_type (read i)
number_over_step read (Number-F.Negative a) = on_both subtract_values (Some (int_value (pos 0))) a.value
number_over_step read (Number-F.Add a b) = on_both (combine plus) a.value b.value
number_over_step read (Number-F.Subtract a b) = on_both (combine minus) a.value b.value
number_over_step read (Number-F.Multiply a b) = on_both (combine times) a.value b.value

-- a number's value
abbrev pub number_over : (ℕ → Option Value) → Number → Option Value
number_over read = fold-Number (Option Value) (number_over_step read)

-- one operator of a text
abbrev pub text_over_step : (ℕ → Option Value) → TextOf-F (Option Value) → Option Value
text_over_step read (TextOf-F.Literal s) = Some (text_value (string_bytes s))
text_over_step read (TextOf-F.Leaf i) = of_type text_type (read i)
text_over_step read (TextOf-F.Join a b) = on_both (combine plus) a.value b.value

-- a text's value
abbrev pub text_over : (ℕ → Option Value) → TextOf → Option Value
text_over read = fold-TextOf (Option Value) (text_over_step read)

-- one operator of a truth value
abbrev pub truth_over_step : (ℕ → Option Value) → Truth-F (Option Value) → Option Value
truth_over_step read (Truth-F.Literal b) = Some (bool_value b)
truth_over_step read (Truth-F.Leaf i) = of_type truth_type (read i)
truth_over_step read (Truth-F.Not a) = not_value a.value
truth_over_step read (Truth-F.And a b) = and_values a.value b.value
truth_over_step read (Truth-F.Or a b) = or_values a.value b.value
truth_over_step read (Truth-F.Numbers c a b) = on_both (compared (comparison_view c)) (number_over read a) (number_over read b)
truth_over_step read (Truth-F.Texts c a b) = on_both (compared (comparison_view c)) (text_over read a) (text_over read b)
truth_over_step read (Truth-F.Truths c a b) = on_both (compared (comparison_view c)) a.value b.value
truth_over_step read (Truth-F.Like a p) = on_text (λ t. matches (chars (string_bytes p)) (chars t)) (text_over read a)
truth_over_step read (Truth-F.Contains a s) = on_text (occurs_in (string_bytes s)) (text_over read a)
truth_over_step read (Truth-F.NumberIsNull a) = null_test (number_over read a)
truth_over_step read (Truth-F.TextIsNull a) = null_test (text_over read a)
truth_over_step read (Truth-F.TruthIsNull a) = null_test a.value

-- the value of a truth value's expression
abbrev pub truth_over : (ℕ → Option Value) → Truth → Option Value
truth_over read = fold-Truth (Option Value) (truth_over_step read)

-- the value of an expression of any type
abbrev pub expr_over : (ℕ → Option Value) → Expr → Option Value
expr_over read (Expr.Truth a) = truth_over read a
expr_over read (Expr.Number a) = number_over read a
expr_over read (Expr.Text a) = text_over read a

-- whether each test is true: neither false nor NULL
abbrev pub tests_over : (ℕ → Option Value) → List Truth → Bool
tests_over read ts = list_all (λ (t : Truth). is_true (truth_over read t)) ts
