-- The leaves in an expression are its paths.
use Rattle.std.proofs.Common.{◌≡◌, ℕ, List, [], ◌∷◌, ◌++◌, map, refl, sym, ap, ap₂, subst, ◌∙◌}
use Rattle.std.proofs.lemmas.List.{map-append}
use Rattle.std.specs.List.{slice_get}
use Rattle.dr_meaning.specs.Path.{Step, Leaf}
use Rattle.dr_meaning.specs.Expression.{Expression, paths_of}
use Rattle.dr_plan.specs.declared.expression.Number as numbers
use Rattle.dr_plan.specs.declared.expression.Number.{Number}
use Rattle.dr_plan.specs.declared.expression.Number.TheOpen.{Number-F}
use Rattle.dr_plan.specs.declared.expression.Number.TheFolds as number_folds
use Rattle.dr_plan.specs.declared.expression.TextOf as texts
use Rattle.dr_plan.specs.declared.expression.TextOf.{TextOf}
use Rattle.dr_plan.specs.declared.expression.TextOf.TheOpen.{TextOf-F}
use Rattle.dr_plan.specs.declared.expression.TextOf.TheFolds as text_folds
use Rattle.dr_plan.specs.declared.expression.Truth as truths
use Rattle.dr_plan.specs.declared.expression.Truth.{Truth}
use Rattle.dr_plan.specs.declared.expression.Truth.TheOpen.{Truth-F}
use Rattle.dr_plan.specs.declared.expression.Truth.TheFolds as truth_folds
use Rattle.dr_plan.specs.declared.expression.Expr.{Expr}
use Rattle.dr_plan.specs.Views.{path_of, number_view, number_step, text_view, text_step, truth_view, truth_step}
use Rattle.dr_scalar.specs.Leaves.{number_leaves, number_leaves_step, text_leaves, text_leaves_step, truth_leaves, truth_leaves_step, tests_leaves}
use Rattle.dr_scalar.specs.LeafLaws.{LeavesArePaths, TestLeavesArePaths}

abbrev paths_at : List Leaf → List ℕ → List (List Step)
paths_at ls ks = map (λ k. path_of (slice_get ls k)) ks

both_paths : (ls : List Leaf) (ks js : List ℕ) (ps qs : List (List Step)) → paths_at ls ks ≡ ps → paths_at ls js ≡ qs → paths_at ls (ks ++ js) ≡ ps ++ qs
both_paths ls ks js ps qs h g = map-append (λ k. path_of (slice_get ls k)) ks js ∙ ap₂ (λ xs ys. xs ++ ys) h g

-- ---- in a number

abbrev NumberPaths : List Leaf → Number → Type 0
NumberPaths ls n = paths_at ls (number_leaves n) ≡ paths_of (number_view ls n)

abbrev NumberNode : List Leaf → Type 0
NumberNode ls = Number-F ((n : Number) × NumberPaths ls n)

abbrev bare_number : (ls : List Leaf) → NumberNode ls → Number-F Number
bare_number ls y = number_folds.map-Number ((n : Number) × NumberPaths ls n) Number (λ e. e.0) y

number_node : (ls : List Leaf) (y : NumberNode ls)
    → paths_at ls (number_leaves_step (number_folds.map-Number Number (List ℕ) number_leaves (bare_number ls y))) ≡ paths_of (number_step ls (number_folds.map-Number Number Expression (number_view ls) (bare_number ls y)))
number_node ls (Number-F.Literal z) = refl
number_node ls (Number-F.Leaf i) = refl
number_node ls (Number-F.Negative a) = a.value.1
number_node ls (Number-F.Add a b) = both_paths ls (number_leaves a.value.0) (number_leaves b.value.0) _ _ a.value.1 b.value.1
number_node ls (Number-F.Subtract a b) = both_paths ls (number_leaves a.value.0) (number_leaves b.value.0) _ _ a.value.1 b.value.1
number_node ls (Number-F.Multiply a b) = both_paths ls (number_leaves a.value.0) (number_leaves b.value.0) _ _ a.value.1 b.value.1

number_rolled : (ls : List Leaf) (y : NumberNode ls) → NumberPaths ls (numbers.roll-Number (bare_number ls y))
number_rolled ls y =
    let x = bare_number ls y in
    ap (paths_at ls) (number_folds.fold-roll-Number (List ℕ) number_leaves_step x) ∙ (number_node ls y ∙ ap paths_of (sym (number_folds.fold-roll-Number Expression (number_step ls) x)))

number_paths : (ls : List Leaf) (n : Number) → NumberPaths ls n
number_paths ls = number_folds.ind-Number (NumberPaths ls) (λ x y is. subst (λ z. NumberPaths ls (numbers.roll-Number z)) is (number_rolled ls y))

-- ---- in a text

abbrev TextPaths : List Leaf → TextOf → Type 0
TextPaths ls n = paths_at ls (text_leaves n) ≡ paths_of (text_view ls n)

abbrev TextNode : List Leaf → Type 0
TextNode ls = TextOf-F ((n : TextOf) × TextPaths ls n)

abbrev bare_text : (ls : List Leaf) → TextNode ls → TextOf-F TextOf
bare_text ls y = text_folds.map-TextOf ((n : TextOf) × TextPaths ls n) TextOf (λ e. e.0) y

text_node : (ls : List Leaf) (y : TextNode ls)
    → paths_at ls (text_leaves_step (text_folds.map-TextOf TextOf (List ℕ) text_leaves (bare_text ls y))) ≡ paths_of (text_step ls (text_folds.map-TextOf TextOf Expression (text_view ls) (bare_text ls y)))
text_node ls (TextOf-F.Literal s) = refl
text_node ls (TextOf-F.Leaf i) = refl
text_node ls (TextOf-F.Join a b) = both_paths ls (text_leaves a.value.0) (text_leaves b.value.0) _ _ a.value.1 b.value.1

text_rolled : (ls : List Leaf) (y : TextNode ls) → TextPaths ls (texts.roll-TextOf (bare_text ls y))
text_rolled ls y =
    let x = bare_text ls y in
    ap (paths_at ls) (text_folds.fold-roll-TextOf (List ℕ) text_leaves_step x) ∙ (text_node ls y ∙ ap paths_of (sym (text_folds.fold-roll-TextOf Expression (text_step ls) x)))

text_paths : (ls : List Leaf) (n : TextOf) → TextPaths ls n
text_paths ls = text_folds.ind-TextOf (TextPaths ls) (λ x y is. subst (λ z. TextPaths ls (texts.roll-TextOf z)) is (text_rolled ls y))

-- ---- in a truth value

abbrev TruthPaths : List Leaf → Truth → Type 0
TruthPaths ls n = paths_at ls (truth_leaves n) ≡ paths_of (truth_view ls n)

abbrev TruthNode : List Leaf → Type 0
TruthNode ls = Truth-F ((n : Truth) × TruthPaths ls n)

abbrev bare_truth : (ls : List Leaf) → TruthNode ls → Truth-F Truth
bare_truth ls y = truth_folds.map-Truth ((n : Truth) × TruthPaths ls n) Truth (λ e. e.0) y

truth_node : (ls : List Leaf) (y : TruthNode ls)
    → paths_at ls (truth_leaves_step (truth_folds.map-Truth Truth (List ℕ) truth_leaves (bare_truth ls y))) ≡ paths_of (truth_step ls (truth_folds.map-Truth Truth Expression (truth_view ls) (bare_truth ls y)))
truth_node ls (Truth-F.Literal b) = refl
truth_node ls (Truth-F.Leaf i) = refl
truth_node ls (Truth-F.Not a) = a.value.1
truth_node ls (Truth-F.And a b) = both_paths ls (truth_leaves a.value.0) (truth_leaves b.value.0) _ _ a.value.1 b.value.1
truth_node ls (Truth-F.Or a b) = both_paths ls (truth_leaves a.value.0) (truth_leaves b.value.0) _ _ a.value.1 b.value.1
truth_node ls (Truth-F.Numbers c a b) = both_paths ls (number_leaves a) (number_leaves b) _ _ (number_paths ls a) (number_paths ls b)
truth_node ls (Truth-F.Texts c a b) = both_paths ls (text_leaves a) (text_leaves b) _ _ (text_paths ls a) (text_paths ls b)
truth_node ls (Truth-F.Truths c a b) = both_paths ls (truth_leaves a.value.0) (truth_leaves b.value.0) _ _ a.value.1 b.value.1
truth_node ls (Truth-F.Like a p) = text_paths ls a
truth_node ls (Truth-F.Contains a s) = text_paths ls a
truth_node ls (Truth-F.NumberIsNull a) = number_paths ls a
truth_node ls (Truth-F.TextIsNull a) = text_paths ls a
truth_node ls (Truth-F.TruthIsNull a) = a.value.1

truth_rolled : (ls : List Leaf) (y : TruthNode ls) → TruthPaths ls (truths.roll-Truth (bare_truth ls y))
truth_rolled ls y =
    let x = bare_truth ls y in
    ap (paths_at ls) (truth_folds.fold-roll-Truth (List ℕ) truth_leaves_step x) ∙ (truth_node ls y ∙ ap paths_of (sym (truth_folds.fold-roll-Truth Expression (truth_step ls) x)))

truth_paths : (ls : List Leaf) (n : Truth) → TruthPaths ls n
truth_paths ls = truth_folds.ind-Truth (TruthPaths ls) (λ x y is. subst (λ z. TruthPaths ls (truths.roll-Truth z)) is (truth_rolled ls y))

-- ---- the laws

pub leaves_are_paths : LeavesArePaths
leaves_are_paths ls (Expr.Truth a) = truth_paths ls a
leaves_are_paths ls (Expr.Number a) = number_paths ls a
leaves_are_paths ls (Expr.Text a) = text_paths ls a

pub test_leaves_are_paths : TestLeavesArePaths
test_leaves_are_paths ls [] = refl
test_leaves_are_paths ls (t ∷ ts) = both_paths ls (truth_leaves t) (tests_leaves ts) _ _ (truth_paths ls t) (test_leaves_are_paths ls ts)
