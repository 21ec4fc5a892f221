-- The leaves of an expression that fits a plan's leaves are among them; and they are put behind others.
use Rattle.std.proofs.Common.{◌≡◌, ℕ, suc, List, [], ◌∷◌, ◌++◌, length, Bool, true, Option, Some, None, refl, sym, ap, subst, ◌∙◌, true≢false}
use Rattle.std.specs.List.{list_all, slice_get}
use Rattle.std.proofs.lemmas.Bool.{and_parts, and_from, le-leb}
use Rattle.std.proofs.lemmas.Option.{slice_get_within}
use Rattle.dr_meaning.specs.Path.{Leaf}
use Rattle.dr_meaning.specs.BoundExpression.{ValueType, truth_type, number_type, text_type}
use Rattle.dr_plan.specs.declared.expression.Number as numbers
use Rattle.dr_plan.specs.declared.expression.Number.{Number}
use Rattle.dr_plan.specs.declared.expression.Number.TheOpen.{Number-F}
use Rattle.dr_plan.specs.declared.expression.Number.TheFolds as number_folds
use Rattle.dr_plan.specs.declared.expression.TextOf as texts
use Rattle.dr_plan.specs.declared.expression.TextOf.{TextOf}
use Rattle.dr_plan.specs.declared.expression.TextOf.TheOpen.{TextOf-F}
use Rattle.dr_plan.specs.declared.expression.TextOf.TheFolds as text_folds
use Rattle.dr_plan.specs.declared.expression.Truth as truths
use Rattle.dr_plan.specs.declared.expression.Truth.{Truth}
use Rattle.dr_plan.specs.declared.expression.Truth.TheOpen.{Truth-F}
use Rattle.dr_plan.specs.declared.expression.Truth.TheFolds as truth_folds
use Rattle.dr_plan.specs.declared.expression.Expr.{Expr}
use Rattle.dr_plan.specs.Fitting.{leaf_has_type, number_fits, number_fits_step, text_fits, text_fits_step, truth_fits, truth_fits_step, expr_fits}
use Rattle.dr_scalar.specs.Leaves.{number_leaves, number_leaves_step, text_leaves, text_leaves_step, truth_leaves, truth_leaves_step, expr_leaves}
use Rattle.dr_scalar.proofs.LastLemmas.{leaves-add, leaves-subtract, leaves-multiply, leaves-join, leaves-and, leaves-or, leaves-truths, leaves-numbers, leaves-texts}
use Rattle.dr_rows_beside.specs.Sources.{is_numbered}

abbrev all_there : List Leaf → List ℕ → Bool
all_there ls ks = list_all (is_numbered (length ls)) ks

both_there : (ls : List Leaf) (ks js : List ℕ) → all_there ls ks ≡ true → all_there ls js ≡ true → all_there ls (ks ++ js) ≡ true
both_there ls [] js h g = g
both_there ls (k ∷ ks) js h g = and_from _ _ (and_parts _ _ h).0 (both_there ls ks js (and_parts _ _ h).1 g)

there_by : (ls : List Leaf) (t : ValueType) (i : ℕ) (o : Option Leaf) → slice_get ls i ≡ o → leaf_has_type t o ≡ true → all_there ls (i ∷ []) ≡ true
there_by ls t i None e h = absurd (true≢false (sym h))
there_by ls t i (Some l) e h = and_from _ _ (le-leb (suc i) (length ls) (slice_get_within ls i l e)) refl

one_there : (ls : List Leaf) (t : ValueType) (i : ℕ) → leaf_has_type t (slice_get ls i) ≡ true → all_there ls (i ∷ []) ≡ true
one_there ls t i h = there_by ls t i (slice_get ls i) refl h

-- ---- in a number

abbrev NumberThere : List Leaf → Number → Type 0
NumberThere ls n = number_fits ls n ≡ true → all_there ls (number_leaves n) ≡ true

abbrev NumberNode : List Leaf → Type 0
NumberNode ls = Number-F ((n : Number) × NumberThere ls n)

abbrev bare_number : (ls : List Leaf) → NumberNode ls → Number-F Number
bare_number ls y = number_folds.map-Number ((n : Number) × NumberThere ls n) Number (λ e. e.0) y

number_node : (ls : List Leaf) (y : NumberNode ls) → number_fits_step ls (number_folds.map-Number Number Bool (number_fits ls) (bare_number ls y)) ≡ true
    → all_there ls (number_leaves_step (number_folds.map-Number Number (List ℕ) number_leaves (bare_number ls y))) ≡ true
number_node ls (Number-F.Literal z) h = refl
number_node ls (Number-F.Leaf i) h = one_there ls number_type i h
number_node ls (Number-F.Negative a) h = a.value.1 h
number_node ls (Number-F.Add a b) h = both_there ls (number_leaves a.value.0) (number_leaves b.value.0) (a.value.1 (and_parts _ _ h).0) (b.value.1 (and_parts _ _ h).1)
number_node ls (Number-F.Subtract a b) h = both_there ls (number_leaves a.value.0) (number_leaves b.value.0) (a.value.1 (and_parts _ _ h).0) (b.value.1 (and_parts _ _ h).1)
number_node ls (Number-F.Multiply a b) h = both_there ls (number_leaves a.value.0) (number_leaves b.value.0) (a.value.1 (and_parts _ _ h).0) (b.value.1 (and_parts _ _ h).1)

number_rolled : (ls : List Leaf) (y : NumberNode ls) → NumberThere ls (numbers.roll-Number (bare_number ls y))
number_rolled ls y h =
    let x = bare_number ls y in
    ap (all_there ls) (number_folds.fold-roll-Number (List ℕ) number_leaves_step x) ∙ number_node ls y (sym (number_folds.fold-roll-Number Bool (number_fits_step ls) x) ∙ h)

pub number_there : (ls : List Leaf) (n : Number) → NumberThere ls n
number_there ls = number_folds.ind-Number (NumberThere ls) (λ x y is. subst (λ z. NumberThere ls (numbers.roll-Number z)) is (number_rolled ls y))

-- ---- in a text

abbrev TextThere : List Leaf → TextOf → Type 0
TextThere ls n = text_fits ls n ≡ true → all_there ls (text_leaves n) ≡ true

abbrev TextNode : List Leaf → Type 0
TextNode ls = TextOf-F ((n : TextOf) × TextThere ls n)

abbrev bare_text : (ls : List Leaf) → TextNode ls → TextOf-F TextOf
bare_text ls y = text_folds.map-TextOf ((n : TextOf) × TextThere ls n) TextOf (λ e. e.0) y

text_node : (ls : List Leaf) (y : TextNode ls) → text_fits_step ls (text_folds.map-TextOf TextOf Bool (text_fits ls) (bare_text ls y)) ≡ true
    → all_there ls (text_leaves_step (text_folds.map-TextOf TextOf (List ℕ) text_leaves (bare_text ls y))) ≡ true
text_node ls (TextOf-F.Literal s) h = refl
text_node ls (TextOf-F.Leaf i) h = one_there ls text_type i h
text_node ls (TextOf-F.Join a b) h = both_there ls (text_leaves a.value.0) (text_leaves b.value.0) (a.value.1 (and_parts _ _ h).0) (b.value.1 (and_parts _ _ h).1)

text_rolled : (ls : List Leaf) (y : TextNode ls) → TextThere ls (texts.roll-TextOf (bare_text ls y))
text_rolled ls y h =
    let x = bare_text ls y in
    ap (all_there ls) (text_folds.fold-roll-TextOf (List ℕ) text_leaves_step x) ∙ text_node ls y (sym (text_folds.fold-roll-TextOf Bool (text_fits_step ls) x) ∙ h)

pub text_there : (ls : List Leaf) (n : TextOf) → TextThere ls n
text_there ls = text_folds.ind-TextOf (TextThere ls) (λ x y is. subst (λ z. TextThere ls (texts.roll-TextOf z)) is (text_rolled ls y))

-- ---- in a truth value

abbrev TruthThere : List Leaf → Truth → Type 0
TruthThere ls n = truth_fits ls n ≡ true → all_there ls (truth_leaves n) ≡ true

abbrev TruthNode : List Leaf → Type 0
TruthNode ls = Truth-F ((n : Truth) × TruthThere ls n)

abbrev bare_truth : (ls : List Leaf) → TruthNode ls → Truth-F Truth
bare_truth ls y = truth_folds.map-Truth ((n : Truth) × TruthThere ls n) Truth (λ e. e.0) y

truth_node : (ls : List Leaf) (y : TruthNode ls) → truth_fits_step ls (truth_folds.map-Truth Truth Bool (truth_fits ls) (bare_truth ls y)) ≡ true
    → all_there ls (truth_leaves_step (truth_folds.map-Truth Truth (List ℕ) truth_leaves (bare_truth ls y))) ≡ true
truth_node ls (Truth-F.Literal b) h = refl
truth_node ls (Truth-F.Leaf i) h = one_there ls truth_type i h
truth_node ls (Truth-F.Not a) h = a.value.1 h
truth_node ls (Truth-F.And a b) h = both_there ls (truth_leaves a.value.0) (truth_leaves b.value.0) (a.value.1 (and_parts _ _ h).0) (b.value.1 (and_parts _ _ h).1)
truth_node ls (Truth-F.Or a b) h = both_there ls (truth_leaves a.value.0) (truth_leaves b.value.0) (a.value.1 (and_parts _ _ h).0) (b.value.1 (and_parts _ _ h).1)
truth_node ls (Truth-F.Numbers c a b) h = both_there ls (number_leaves a) (number_leaves b) (number_there ls a (and_parts _ _ h).0) (number_there ls b (and_parts _ _ h).1)
truth_node ls (Truth-F.Texts c a b) h = both_there ls (text_leaves a) (text_leaves b) (text_there ls a (and_parts _ _ h).0) (text_there ls b (and_parts _ _ h).1)
truth_node ls (Truth-F.Truths c a b) h = both_there ls (truth_leaves a.value.0) (truth_leaves b.value.0) (a.value.1 (and_parts _ _ h).0) (b.value.1 (and_parts _ _ h).1)
truth_node ls (Truth-F.Like a p) h = text_there ls a h
truth_node ls (Truth-F.Contains a s) h = text_there ls a h
truth_node ls (Truth-F.NumberIsNull a) h = number_there ls a h
truth_node ls (Truth-F.TextIsNull a) h = text_there ls a h
truth_node ls (Truth-F.TruthIsNull a) h = a.value.1 h

truth_rolled : (ls : List Leaf) (y : TruthNode ls) → TruthThere ls (truths.roll-Truth (bare_truth ls y))
truth_rolled ls y h =
    let x = bare_truth ls y in
    ap (all_there ls) (truth_folds.fold-roll-Truth (List ℕ) truth_leaves_step x) ∙ truth_node ls y (sym (truth_folds.fold-roll-Truth Bool (truth_fits_step ls) x) ∙ h)

pub truth_there : (ls : List Leaf) (n : Truth) → TruthThere ls n
truth_there ls = truth_folds.ind-Truth (TruthThere ls) (λ x y is. subst (λ z. TruthThere ls (truths.roll-Truth z)) is (truth_rolled ls y))

pub expr_there : (ls : List Leaf) (e : Expr) → expr_fits ls e ≡ true → all_there ls (expr_leaves e) ≡ true
expr_there ls (Expr.Truth a) h = truth_there ls a h
expr_there ls (Expr.Number a) h = number_there ls a h
expr_there ls (Expr.Text a) h = text_there ls a h

-- ---- put behind others

pub put_assoc : (ks js is : List ℕ) → (ks ++ js) ++ is ≡ ks ++ (js ++ is)
put_assoc [] js is = refl
put_assoc (k ∷ ks) js is = ap (λ (xs : List ℕ). k ∷ xs) (put_assoc ks js is)

pub put_none : (ks : List ℕ) → ks ++ [] ≡ ks
put_none [] = refl
put_none (k ∷ ks) = ap (λ (xs : List ℕ). k ∷ xs) (put_none ks)

pub ruleset number_puts = (leaves-add, leaves-subtract, leaves-multiply, put_assoc, put_none)

pub ruleset text_puts = (leaves-join, put_assoc, put_none)

pub ruleset truth_puts = (leaves-and, leaves-or, leaves-truths, leaves-numbers, leaves-texts, put_assoc, put_none)
