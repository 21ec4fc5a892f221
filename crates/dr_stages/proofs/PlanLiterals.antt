-- The text literals of a plan are UTF-8.
use Rattle.std.proofs.Common.{◌≡◌, ℕ, List, [], ◌∷◌, map, Bool, true, ◌&&◌, refl, sym, ap, ap₂, subst, ◌∙◌}
use Rattle.std.specs.Prelude.{string_bytes}
use Rattle.std.specs.List.{list_all}
use Rattle.std.proofs.lemmas.Str.{IsUtf8-string_bytes, is_utf8-from_IsUtf8}
use Rattle.dr_meaning.specs.Path.{Leaf}
use Rattle.dr_meaning.specs.Expression.{Expression}
use Rattle.dr_meaning.specs.Query.{RecordItem as MeantItem}
use Rattle.dr_plan.specs.Views.{number_view, number_step, text_view, text_step, truth_view, truth_step, expr_view, record_item_view, record_term_view}
use Rattle.dr_plan.specs.declared.expression.Number as numbers
use Rattle.dr_plan.specs.declared.expression.Number.{Number}
use Rattle.dr_plan.specs.declared.expression.Number.TheOpen.{Number-F}
use Rattle.dr_plan.specs.declared.expression.Number.TheFolds as number_folds
use Rattle.dr_plan.specs.declared.expression.TextOf as texts
use Rattle.dr_plan.specs.declared.expression.TextOf.{TextOf}
use Rattle.dr_plan.specs.declared.expression.TextOf.TheOpen.{TextOf-F}
use Rattle.dr_plan.specs.declared.expression.TextOf.TheFolds as text_folds
use Rattle.dr_plan.specs.declared.expression.Truth as truths
use Rattle.dr_plan.specs.declared.expression.Truth.{Truth}
use Rattle.dr_plan.specs.declared.expression.Truth.TheOpen.{Truth-F}
use Rattle.dr_plan.specs.declared.expression.Truth.TheFolds as truth_folds
use Rattle.dr_plan.specs.declared.expression.Expr.{Expr}
use Rattle.dr_plan.specs.declared.plan.RecordTerm.{RecordTerm}
use Rattle.dr_plan.specs.declared.plan.RecordItem.{RecordItem}
use Rattle.dr_sub_meaning.specs.NestedLaws.{has_literals, has_term_literals}

both : (a b : Bool) → a ≡ true → b ≡ true → (a && b) ≡ true
both a b h g = ap₂ (λ (x y : Bool). x && y) h g

-- ---- of a number

abbrev NumberHeld : List Leaf → Number → Type 0
NumberHeld ls n = has_literals (number_view ls n) ≡ true

abbrev NumberNode : List Leaf → Type 0
NumberNode ls = Number-F ((n : Number) × NumberHeld ls n)

abbrev bare_number : (ls : List Leaf) → NumberNode ls → Number-F Number
bare_number ls y = number_folds.map-Number ((n : Number) × NumberHeld ls n) Number (λ e. e.0) y

number_node : (ls : List Leaf) (y : NumberNode ls) → has_literals (number_step ls (number_folds.map-Number Number Expression (number_view ls) (bare_number ls y))) ≡ true
number_node ls (Number-F.Literal z) = refl
number_node ls (Number-F.Leaf i) = refl
number_node ls (Number-F.Negative a) = a.value.1
number_node ls (Number-F.Add a b) = both _ _ a.value.1 b.value.1
number_node ls (Number-F.Subtract a b) = both _ _ a.value.1 b.value.1
number_node ls (Number-F.Multiply a b) = both _ _ a.value.1 b.value.1

number_rolled : (ls : List Leaf) (y : NumberNode ls) → NumberHeld ls (numbers.roll-Number (bare_number ls y))
number_rolled ls y = ap has_literals (number_folds.fold-roll-Number Expression (number_step ls) (bare_number ls y)) ∙ number_node ls y

number_held : (ls : List Leaf) (n : Number) → NumberHeld ls n
number_held ls = number_folds.ind-Number (NumberHeld ls) (λ x y is. subst (λ z. NumberHeld ls (numbers.roll-Number z)) is (number_rolled ls y))

-- ---- of a text

abbrev TextHeld : List Leaf → TextOf → Type 0
TextHeld ls n = has_literals (text_view ls n) ≡ true

abbrev TextNode : List Leaf → Type 0
TextNode ls = TextOf-F ((n : TextOf) × TextHeld ls n)

abbrev bare_text : (ls : List Leaf) → TextNode ls → TextOf-F TextOf
bare_text ls y = text_folds.map-TextOf ((n : TextOf) × TextHeld ls n) TextOf (λ e. e.0) y

text_node : (ls : List Leaf) (y : TextNode ls) → has_literals (text_step ls (text_folds.map-TextOf TextOf Expression (text_view ls) (bare_text ls y))) ≡ true
text_node ls (TextOf-F.Literal s) = is_utf8-from_IsUtf8 (string_bytes s) (IsUtf8-string_bytes s)
text_node ls (TextOf-F.Leaf i) = refl
text_node ls (TextOf-F.Join a b) = both _ _ a.value.1 b.value.1

text_rolled : (ls : List Leaf) (y : TextNode ls) → TextHeld ls (texts.roll-TextOf (bare_text ls y))
text_rolled ls y = ap has_literals (text_folds.fold-roll-TextOf Expression (text_step ls) (bare_text ls y)) ∙ text_node ls y

text_held : (ls : List Leaf) (n : TextOf) → TextHeld ls n
text_held ls = text_folds.ind-TextOf (TextHeld ls) (λ x y is. subst (λ z. TextHeld ls (texts.roll-TextOf z)) is (text_rolled ls y))

-- ---- of a truth value

abbrev TruthHeld : List Leaf → Truth → Type 0
TruthHeld ls n = has_literals (truth_view ls n) ≡ true

abbrev TruthNode : List Leaf → Type 0
TruthNode ls = Truth-F ((n : Truth) × TruthHeld ls n)

abbrev bare_truth : (ls : List Leaf) → TruthNode ls → Truth-F Truth
bare_truth ls y = truth_folds.map-Truth ((n : Truth) × TruthHeld ls n) Truth (λ e. e.0) y

truth_node : (ls : List Leaf) (y : TruthNode ls) → has_literals (truth_step ls (truth_folds.map-Truth Truth Expression (truth_view ls) (bare_truth ls y))) ≡ true
truth_node ls (Truth-F.Literal b) = refl
truth_node ls (Truth-F.Leaf i) = refl
truth_node ls (Truth-F.Not a) = a.value.1
truth_node ls (Truth-F.And a b) = both _ _ a.value.1 b.value.1
truth_node ls (Truth-F.Or a b) = both _ _ a.value.1 b.value.1
truth_node ls (Truth-F.Numbers c a b) = both _ _ (number_held ls a) (number_held ls b)
truth_node ls (Truth-F.Texts c a b) = both _ _ (text_held ls a) (text_held ls b)
truth_node ls (Truth-F.Truths c a b) = both _ _ a.value.1 b.value.1
truth_node ls (Truth-F.Like a p) = text_held ls a
truth_node ls (Truth-F.Contains a s) = text_held ls a
truth_node ls (Truth-F.NumberIsNull a) = number_held ls a
truth_node ls (Truth-F.TextIsNull a) = text_held ls a
truth_node ls (Truth-F.TruthIsNull a) = a.value.1

truth_rolled : (ls : List Leaf) (y : TruthNode ls) → TruthHeld ls (truths.roll-Truth (bare_truth ls y))
truth_rolled ls y = ap has_literals (truth_folds.fold-roll-Truth Expression (truth_step ls) (bare_truth ls y)) ∙ truth_node ls y

truth_held : (ls : List Leaf) (n : Truth) → TruthHeld ls n
truth_held ls = truth_folds.ind-Truth (TruthHeld ls) (λ x y is. subst (λ z. TruthHeld ls (truths.roll-Truth z)) is (truth_rolled ls y))

-- ---- of a plan's items

expr_held : (ls : List Leaf) (e : Expr) → has_literals (expr_view ls e) ≡ true
expr_held ls (Expr.Truth a) = truth_held ls a
expr_held ls (Expr.Number a) = number_held ls a
expr_held ls (Expr.Text a) = text_held ls a

term_held : (ls : List Leaf) (t : RecordTerm) → has_term_literals (record_term_view ls t) ≡ true
term_held ls (RecordTerm.Value e) = expr_held ls e
term_held ls (RecordTerm.Within w) = expr_held ls w.argument

pub items_held : (ls : List Leaf) (is : List RecordItem) → list_all (λ (i : MeantItem). has_term_literals i.term) (map (record_item_view ls) is) ≡ true
items_held ls [] = refl
items_held ls (i ∷ is) = both _ _ (term_held ls i.term) (items_held ls is)
