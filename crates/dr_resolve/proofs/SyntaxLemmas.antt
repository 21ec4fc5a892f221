-- The views of syntax trees at constructors.
use Rattle.std.specs.Prelude.{◌≡◌, ℕ, List, Bool, Box}
use denote.Ref.{Bor}
use Rattle.std.specs.declared.alloc.Global.{Global}
use Rattle.std.proofs.Common.{rules}
use Rattle.dr_meaning.specs.Syntax as syntax
use Rattle.dr_sql.specs.declared.expression.Path.{Path}
use Rattle.dr_sql.specs.declared.numeral.Numeral.{Numeral}
use Rattle.dr_sql.specs.TokenViews.{undoubled}
use Rattle.dr_sql.specs.declared.expression.Expression as expressions
use Rattle.dr_sql.specs.declared.expression.Arithmetic.{Arithmetic}
use Rattle.dr_sql.specs.declared.expression.Comparison.{Comparison}
use Rattle.dr_sql.specs.Views.{expression_view, path_view, arithmetic_view, comparison_view}

pub view-number : (n : Numeral) → expression_view (expressions.Number n) ≡ syntax.number_literal n.value
view-number n = search (rules, expressions.the_lemmas)

pub view-text : (t : Bor (List ℕ)) → expression_view (expressions.Text t) ≡ syntax.text_literal (undoubled t.now)
view-text t = search (rules, expressions.the_lemmas)

pub view-truth : (b : Bool) → expression_view (expressions.Truth b) ≡ syntax.truth_literal b
view-truth b = search (rules, expressions.the_lemmas)

pub view-path : (p : Path) → expression_view (expressions.Path p) ≡ syntax.path (path_view p)
view-path p = search (rules, expressions.the_lemmas)

pub view-arithmetic : (i : ℕ) (o : Arithmetic) (a b : Box expressions.Expression Global) → expression_view (expressions.Arithmetic i o a b) ≡ syntax.arithmetic i (arithmetic_view o) (expression_view a.value) (expression_view b.value)
view-arithmetic i o a b = search (rules, expressions.the_lemmas)

pub view-comparison : (i : ℕ) (o : Comparison) (a b : Box expressions.Expression Global) → expression_view (expressions.Comparison i o a b) ≡ syntax.comparison i (comparison_view o) (expression_view a.value) (expression_view b.value)
view-comparison i o a b = search (rules, expressions.the_lemmas)
