-- The leaves in a plan's expression, by their numbers, in the order in which they stand.
use Rattle.std.specs.Prelude.{ℕ, max, List, [], ◌∷◌, ◌++◌, Option, Some, None}
use Rattle.std.specs.List.{flat_map}
use Rattle.dr_plan.specs.declared.expression.Number.{Number, fold-Number}
use Rattle.dr_plan.specs.declared.expression.Number.TheOpen.{Number-F}
use Rattle.dr_plan.specs.declared.expression.TextOf.{TextOf, fold-TextOf}
use Rattle.dr_plan.specs.declared.expression.TextOf.TheOpen.{TextOf-F}
use Rattle.dr_plan.specs.declared.expression.Truth.{Truth, fold-Truth}
use Rattle.dr_plan.specs.declared.expression.Truth.TheOpen.{Truth-F}
use Rattle.dr_plan.specs.declared.expression.Expr.{Expr}

abbrev pub number_leaves_step : Number-F (List ℕ) → List ℕ
number_leaves_step (Number-F.Literal z) = []
number_leaves_step (Number-F.Leaf i) = i ∷ []
number_leaves_step (Number-F.Negative a) = a.value
number_leaves_step (Number-F.Add a b) = a.value ++ b.value
number_leaves_step (Number-F.Subtract a b) = a.value ++ b.value
number_leaves_step (Number-F.Multiply a b) = a.value ++ b.value

-- those in a number
abbrev pub number_leaves : Number → List ℕ
number_leaves = fold-Number (List ℕ) number_leaves_step

abbrev pub text_leaves_step : TextOf-F (List ℕ) → List ℕ
text_leaves_step (TextOf-F.Literal s) = []
text_leaves_step (TextOf-F.Leaf i) = i ∷ []
text_leaves_step (TextOf-F.Join a b) = a.value ++ b.value

-- those in a text
abbrev pub text_leaves : TextOf → List ℕ
text_leaves = fold-TextOf (List ℕ) text_leaves_step

abbrev pub truth_leaves_step : Truth-F (List ℕ) → List ℕ
truth_leaves_step (Truth-F.Literal b) = []
truth_leaves_step (Truth-F.Leaf i) = i ∷ []
truth_leaves_step (Truth-F.Not a) = a.value
truth_leaves_step (Truth-F.And a b) = a.value ++ b.value
truth_leaves_step (Truth-F.Or a b) = a.value ++ b.value
truth_leaves_step (Truth-F.Numbers c a b) = number_leaves a ++ number_leaves b
truth_leaves_step (Truth-F.Texts c a b) = text_leaves a ++ text_leaves b
truth_leaves_step (Truth-F.Truths c a b) = a.value ++ b.value
truth_leaves_step (Truth-F.Like a p) = text_leaves a
truth_leaves_step (Truth-F.Contains a s) = text_leaves a
truth_leaves_step (Truth-F.NumberIsNull a) = number_leaves a
truth_leaves_step (Truth-F.TextIsNull a) = text_leaves a
truth_leaves_step (Truth-F.TruthIsNull a) = a.value

-- those in a truth value
abbrev pub truth_leaves : Truth → List ℕ
truth_leaves = fold-Truth (List ℕ) truth_leaves_step

-- those in an expression of any type
abbrev pub expr_leaves : Expr → List ℕ
expr_leaves (Expr.Truth a) = truth_leaves a
expr_leaves (Expr.Number a) = number_leaves a
expr_leaves (Expr.Text a) = text_leaves a

-- those in tests
abbrev pub tests_leaves : List Truth → List ℕ
tests_leaves ts = flat_map truth_leaves ts

-- the greater of two numbers, where there are such
abbrev pub greater : Option ℕ → Option ℕ → Option ℕ
greater None b = b
greater (Some a) None = Some a
greater (Some a) (Some b) = Some (max a b)

-- the greatest of several numbers; there is none where there are no numbers
abbrev pub greatest : List ℕ → Option ℕ
greatest [] = None
greatest (k ∷ ks) = greater (Some k) (greatest ks)
