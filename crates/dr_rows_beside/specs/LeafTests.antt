-- Tests of a leaf's number beside a literal.
use Rattle.std.specs.Prelude.{◌≡◌, ℕ, Option, Some}
use Rattle.dr_meaning.specs.Record.{Value, int_value}
use Rattle.dr_meaning.specs.Expression.{on_both, compared}
use Rattle.dr_meaning.specs.BoundExpression.{number_type}
use Rattle.dr_plan.specs.declared.expression.Truth.{Truth}
use Rattle.dr_plan.specs.Views.{comparison_view}
use Rattle.dr_scalar.specs.Slots.{of_type}
use Rattle.dr_scalar.specs.OverSlots.{truth_over}
use Rattle.dr_rows_beside.specs.declared.answers.LeafTest.{LeafTest}

-- the test compares the leaf's number with the literal
abbrev pub IsLeafTest : Truth → LeafTest → Type 0
IsLeafTest t f = (read : ℕ → Option Value) → truth_over read t ≡ on_both (compared (comparison_view f.comparison)) (of_type number_type (read f.leaf)) (Some (int_value f.literal))
