-- What was read of the leaves in an expression alone decides its value.
use Rattle.std.proofs.Common.{◌≡◌, ℕ, List, [], ◌∷◌, ◌++◌, pos, ◌&&◌, Option, Some, refl, sym, ap, ap₂, string_bytes, chars, subst, ◌∙◌}
use Rattle.dr_meaning.specs.Record.{Value, int_value}
use Rattle.dr_meaning.specs.Expression.{plus, minus, times, combine, compared, on_both, on_text, subtract_values, matches, occurs_in}
use Rattle.dr_meaning.specs.Expression.{not_value, and_values, or_values, null_test, is_true}
use Rattle.dr_meaning.specs.BoundExpression.{truth_type, number_type, text_type}
use Rattle.dr_plan.specs.declared.expression.Number as numbers
use Rattle.dr_plan.specs.declared.expression.Number.{Number}
use Rattle.dr_plan.specs.declared.expression.Number.TheOpen.{Number-F}
use Rattle.dr_plan.specs.declared.expression.Number.TheFolds as number_folds
use Rattle.dr_plan.specs.declared.expression.TextOf as texts
use Rattle.dr_plan.specs.declared.expression.TextOf.{TextOf}
use Rattle.dr_plan.specs.declared.expression.TextOf.TheOpen.{TextOf-F}
use Rattle.dr_plan.specs.declared.expression.TextOf.TheFolds as text_folds
use Rattle.dr_plan.specs.declared.expression.Truth as truths
use Rattle.dr_plan.specs.declared.expression.Truth.{Truth}
use Rattle.dr_plan.specs.declared.expression.Truth.TheOpen.{Truth-F}
use Rattle.dr_plan.specs.declared.expression.Truth.TheFolds as truth_folds
use Rattle.dr_plan.specs.declared.expression.Expr.{Expr}
use Rattle.dr_plan.specs.Views.{comparison_view}
use Rattle.dr_scalar.specs.Leaves.{number_leaves, number_leaves_step, text_leaves, text_leaves_step, truth_leaves, truth_leaves_step, tests_leaves}
use Rattle.dr_scalar.specs.LeafLaws.{SameRead, SameLeavesTell, SameTestLeavesTell}
use Rattle.dr_scalar.specs.OverSlots.{number_over, number_over_step, text_over, text_over_step, truth_over, truth_over_step}
use Rattle.dr_scalar.specs.Slots.{of_type}

-- ---- of two lists

pub first_same : (ks js : List ℕ) (r s : ℕ → Option Value) → SameRead (ks ++ js) r s → SameRead ks r s
first_same [] js r s h = tt
first_same (k ∷ ks) js r s h = (h.0, first_same ks js r s h.1)

pub second_same : (ks js : List ℕ) (r s : ℕ → Option Value) → SameRead (ks ++ js) r s → SameRead js r s
second_same [] js r s h = h
second_same (k ∷ ks) js r s h = second_same ks js r s h.1

pub both_same : (ks js : List ℕ) (r s : ℕ → Option Value) → SameRead ks r s → SameRead js r s → SameRead (ks ++ js) r s
both_same [] js r s h g = g
both_same (k ∷ ks) js r s h g = (h.0, both_same ks js r s h.1 g)

-- an operator of two operands, of which the same leaves were read
same_both : (ks js : List ℕ) (r s : ℕ → Option Value) (f : Option Value → Option Value → Option Value) (a b c d : Option Value)
    → SameRead (ks ++ js) r s → (SameRead ks r s → a ≡ b) → (SameRead js r s → c ≡ d) → f a c ≡ f b d
same_both ks js r s f a b c d h left right = ap₂ f (left (first_same ks js r s h)) (right (second_same ks js r s h))

-- ---- a number

abbrev NumberSame : (ℕ → Option Value) → (ℕ → Option Value) → Number → Type 0
NumberSame r s n = SameRead (number_leaves n) r s → number_over r n ≡ number_over s n

-- a number's node, whose operands have the same values
abbrev NumberNode : (ℕ → Option Value) → (ℕ → Option Value) → Type 0
NumberNode r s = Number-F ((n : Number) × NumberSame r s n)

abbrev bare_number : (r s : ℕ → Option Value) → NumberNode r s → Number-F Number
bare_number r s y = number_folds.map-Number ((n : Number) × NumberSame r s n) Number (λ e. e.0) y

number_node : (r s : ℕ → Option Value) (y : NumberNode r s)
    → SameRead (number_leaves_step (number_folds.map-Number Number (List ℕ) number_leaves (bare_number r s y))) r s
    → number_over_step r (number_folds.map-Number Number (Option Value) (number_over r) (bare_number r s y))
    ≡ number_over_step s (number_folds.map-Number Number (Option Value) (number_over s) (bare_number r s y))
number_node r s (Number-F.Literal z) h = refl
number_node r s (Number-F.Leaf i) h = ap (of_type number_type) h.0
number_node r s (Number-F.Negative a) h = ap (on_both subtract_values (Some (int_value (pos 0)))) (a.value.1 h)
number_node r s (Number-F.Add a b) h =
    same_both (number_leaves a.value.0) (number_leaves b.value.0) r s (on_both (combine plus)) _ _ _ _ h a.value.1 b.value.1
number_node r s (Number-F.Subtract a b) h =
    same_both (number_leaves a.value.0) (number_leaves b.value.0) r s (on_both (combine minus)) _ _ _ _ h a.value.1 b.value.1
number_node r s (Number-F.Multiply a b) h =
    same_both (number_leaves a.value.0) (number_leaves b.value.0) r s (on_both (combine times)) _ _ _ _ h a.value.1 b.value.1

number_rolled : (r s : ℕ → Option Value) (y : NumberNode r s) → NumberSame r s (numbers.roll-Number (bare_number r s y))
number_rolled r s y h =
    let x = bare_number r s y in
    number_folds.fold-roll-Number (Option Value) (number_over_step r) x
    ∙ (number_node r s y (subst (λ ks. SameRead ks r s) (number_folds.fold-roll-Number (List ℕ) number_leaves_step x) h)
    ∙ sym (number_folds.fold-roll-Number (Option Value) (number_over_step s) x))

pub same_number : (r s : ℕ → Option Value) (n : Number) → NumberSame r s n
same_number r s = number_folds.ind-Number (NumberSame r s) (λ x y is. subst (λ z. NumberSame r s (numbers.roll-Number z)) is (number_rolled r s y))

-- ---- a text

abbrev TextSame : (ℕ → Option Value) → (ℕ → Option Value) → TextOf → Type 0
TextSame r s n = SameRead (text_leaves n) r s → text_over r n ≡ text_over s n

-- a text's node, whose operands have the same values
abbrev TextNode : (ℕ → Option Value) → (ℕ → Option Value) → Type 0
TextNode r s = TextOf-F ((n : TextOf) × TextSame r s n)

abbrev bare_text : (r s : ℕ → Option Value) → TextNode r s → TextOf-F TextOf
bare_text r s y = text_folds.map-TextOf ((n : TextOf) × TextSame r s n) TextOf (λ e. e.0) y

text_node : (r s : ℕ → Option Value) (y : TextNode r s)
    → SameRead (text_leaves_step (text_folds.map-TextOf TextOf (List ℕ) text_leaves (bare_text r s y))) r s
    → text_over_step r (text_folds.map-TextOf TextOf (Option Value) (text_over r) (bare_text r s y))
    ≡ text_over_step s (text_folds.map-TextOf TextOf (Option Value) (text_over s) (bare_text r s y))
text_node r s (TextOf-F.Literal t) h = refl
text_node r s (TextOf-F.Leaf i) h = ap (of_type text_type) h.0
text_node r s (TextOf-F.Join a b) h =
    same_both (text_leaves a.value.0) (text_leaves b.value.0) r s (on_both (combine plus)) _ _ _ _ h a.value.1 b.value.1

text_rolled : (r s : ℕ → Option Value) (y : TextNode r s) → TextSame r s (texts.roll-TextOf (bare_text r s y))
text_rolled r s y h =
    let x = bare_text r s y in
    text_folds.fold-roll-TextOf (Option Value) (text_over_step r) x
    ∙ (text_node r s y (subst (λ ks. SameRead ks r s) (text_folds.fold-roll-TextOf (List ℕ) text_leaves_step x) h)
    ∙ sym (text_folds.fold-roll-TextOf (Option Value) (text_over_step s) x))

pub same_text : (r s : ℕ → Option Value) (n : TextOf) → TextSame r s n
same_text r s = text_folds.ind-TextOf (TextSame r s) (λ x y is. subst (λ z. TextSame r s (texts.roll-TextOf z)) is (text_rolled r s y))

-- ---- a truth value

abbrev TruthSame : (ℕ → Option Value) → (ℕ → Option Value) → Truth → Type 0
TruthSame r s n = SameRead (truth_leaves n) r s → truth_over r n ≡ truth_over s n

-- a truth value's node, whose operands have the same values
abbrev TruthNode : (ℕ → Option Value) → (ℕ → Option Value) → Type 0
TruthNode r s = Truth-F ((n : Truth) × TruthSame r s n)

abbrev bare_truth : (r s : ℕ → Option Value) → TruthNode r s → Truth-F Truth
bare_truth r s y = truth_folds.map-Truth ((n : Truth) × TruthSame r s n) Truth (λ e. e.0) y

truth_node : (r s : ℕ → Option Value) (y : TruthNode r s)
    → SameRead (truth_leaves_step (truth_folds.map-Truth Truth (List ℕ) truth_leaves (bare_truth r s y))) r s
    → truth_over_step r (truth_folds.map-Truth Truth (Option Value) (truth_over r) (bare_truth r s y))
    ≡ truth_over_step s (truth_folds.map-Truth Truth (Option Value) (truth_over s) (bare_truth r s y))
truth_node r s (Truth-F.Literal b) h = refl
truth_node r s (Truth-F.Leaf i) h = ap (of_type truth_type) h.0
truth_node r s (Truth-F.Not a) h = ap not_value (a.value.1 h)
truth_node r s (Truth-F.And a b) h =
    same_both (truth_leaves a.value.0) (truth_leaves b.value.0) r s and_values _ _ _ _ h a.value.1 b.value.1
truth_node r s (Truth-F.Or a b) h =
    same_both (truth_leaves a.value.0) (truth_leaves b.value.0) r s or_values _ _ _ _ h a.value.1 b.value.1
truth_node r s (Truth-F.Numbers c a b) h =
    same_both (number_leaves a) (number_leaves b) r s (on_both (compared (comparison_view c))) _ _ _ _ h (same_number r s a) (same_number r s b)
truth_node r s (Truth-F.Texts c a b) h =
    same_both (text_leaves a) (text_leaves b) r s (on_both (compared (comparison_view c))) _ _ _ _ h (same_text r s a) (same_text r s b)
truth_node r s (Truth-F.Truths c a b) h =
    same_both (truth_leaves a.value.0) (truth_leaves b.value.0) r s (on_both (compared (comparison_view c))) _ _ _ _ h a.value.1 b.value.1
truth_node r s (Truth-F.Like a p) h = ap (on_text (λ t. matches (chars (string_bytes p)) (chars t))) (same_text r s a h)
truth_node r s (Truth-F.Contains a t) h = ap (on_text (occurs_in (string_bytes t))) (same_text r s a h)
truth_node r s (Truth-F.NumberIsNull a) h = ap null_test (same_number r s a h)
truth_node r s (Truth-F.TextIsNull a) h = ap null_test (same_text r s a h)
truth_node r s (Truth-F.TruthIsNull a) h = ap null_test (a.value.1 h)

truth_rolled : (r s : ℕ → Option Value) (y : TruthNode r s) → TruthSame r s (truths.roll-Truth (bare_truth r s y))
truth_rolled r s y h =
    let x = bare_truth r s y in
    truth_folds.fold-roll-Truth (Option Value) (truth_over_step r) x
    ∙ (truth_node r s y (subst (λ ks. SameRead ks r s) (truth_folds.fold-roll-Truth (List ℕ) truth_leaves_step x) h)
    ∙ sym (truth_folds.fold-roll-Truth (Option Value) (truth_over_step s) x))

pub same_truth : (r s : ℕ → Option Value) (n : Truth) → TruthSame r s n
same_truth r s = truth_folds.ind-Truth (TruthSame r s) (λ x y is. subst (λ z. TruthSame r s (truths.roll-Truth z)) is (truth_rolled r s y))

-- ---- the laws

pub same_leaves_tell : SameLeavesTell
same_leaves_tell (Expr.Truth a) r s h = same_truth r s a h
same_leaves_tell (Expr.Number a) r s h = same_number r s a h
same_leaves_tell (Expr.Text a) r s h = same_text r s a h

pub same_test_leaves_tell : SameTestLeavesTell
same_test_leaves_tell [] r s h = refl
same_test_leaves_tell (t ∷ ts) r s h =
    ap₂ (λ x y. x && y) (ap is_true (same_truth r s t (first_same (truth_leaves t) (tests_leaves ts) r s h)))
    (same_test_leaves_tell ts r s (second_same (truth_leaves t) (tests_leaves ts) r s h))
