-- Tests of a leaf's number beside a literal.
use Rattle.std.proofs.Common.{◌≡◌, ℕ, List, [], ◌∷◌, map, Bool, Option, Some, None, refl, sym, ap, ap₂, ◌∙◌, rules, ℤ}
use Rattle.dr_meaning.specs.Record.{Value, bool_value, int_value, text_value}
use Rattle.dr_meaning.specs.Column.{Triplet}
use Rattle.dr_meaning.specs.Expression.{is_true, on_both, compared}
use Rattle.dr_meaning.specs.BoundExpression.{number_type}
use Rattle.dr_plan.specs.declared.expression.Comparison.{Comparison}
use Rattle.dr_plan.specs.declared.expression.Truth as truths
use Rattle.dr_plan.specs.declared.expression.Truth.TheVariants as truth_variants
use Rattle.dr_plan.specs.declared.expression.Number as numbers
use Rattle.dr_plan.specs.declared.expression.Number.TheVariants as number_variants
use Rattle.dr_plan.specs.Views.{comparison_view}
use Rattle.dr_scalar.specs.Slots.{of_type}
use Rattle.dr_scalar.specs.OverSlots.{truth_over, number_over}
use Rattle.dr_rows_beside.specs.declared.answers.LeafTest.{LeafTest}
use Rattle.dr_rows_beside.specs.Rows.{slot_at, in_slot}
use Rattle.dr_rows_beside.specs.Comparing.{stands_at}
use Rattle.dr_rows_beside.specs.Answers.{AreAnswers}
use Rattle.dr_rows_beside.specs.LeafTests.{IsLeafTest}

over-numbers : (read : ℕ → Option Value) (c : Comparison) (a b : numbers.Number) → truth_over read (truth_variants.Numbers c a b) ≡ on_both (compared (comparison_view c)) (number_over read a) (number_over read b)
over-numbers read c a b = search (rules, truths.the_lemmas)

over-leaf : (read : ℕ → Option Value) (i : ℕ) → number_over read (number_variants.Leaf i) ≡ of_type number_type (read i)
over-leaf read i = search (rules, numbers.the_lemmas)

over-literal : (read : ℕ → Option Value) (z : ℤ) → number_over read (number_variants.Literal z) ≡ Some (int_value z)
over-literal read z = search (rules, numbers.the_lemmas)

pub is_leaf_test : (t : truths.Truth) (c : Comparison) (a b : numbers.Number) (i : ℕ) (z : ℤ) → t ≡ truth_variants.Numbers c a b → a ≡ number_variants.Leaf i → b ≡ number_variants.Literal z → IsLeafTest t (record { leaf = i; comparison = c; literal = z })
is_leaf_test t c a b i z e f g read =
    ap (truth_over read) e ∙ over-numbers read c a b
    ∙ ap₂ (λ (x y : Option Value). on_both (compared (comparison_view c)) x y) (ap (number_over read) f ∙ over-leaf read i) (ap (number_over read) g ∙ over-literal read z)

-- what is no number is NULL either way
no_number : (c : Comparison) (z : ℤ) (v : Option Value) → is_true (on_both (compared (comparison_view c)) v (Some (int_value z))) ≡ is_true (on_both (compared (comparison_view c)) (of_type number_type v) (Some (int_value z)))
no_number c z None = refl
no_number c z (Some (bool_value b)) = refl
no_number c z (Some (int_value x)) = refl
no_number c z (Some (text_value t)) = refl

pub answers_of : (t : truths.Truth) (f : LeafTest) (ts : List Triplet) → IsLeafTest t f → AreAnswers t f.leaf ts (map (stands_at f.comparison f.literal) ts)
answers_of t f [] h [] e = refl
answers_of t f [] h (r ∷ rows) e = absurd (cc)
answers_of t f (x ∷ ts) h [] e = absurd (cc)
answers_of t f (x ∷ ts) h (r ∷ rows) e =
    let a : slot_at r.slots f.leaf ≡ x.value = cc in
    let b : in_slot f.leaf rows ≡ map (λ (y : Triplet). y.value) ts = cc in
    ap₂ (λ (y : Bool) (ys : List Bool). y ∷ ys)
    (ap (λ (v : Option Value). is_true (on_both (compared (comparison_view f.comparison)) v (Some (int_value f.literal)))) (sym a)
    ∙ no_number f.comparison f.literal (slot_at r.slots f.leaf)
    ∙ ap is_true (sym (h (slot_at r.slots))))
    (answers_of t f ts h rows b)
