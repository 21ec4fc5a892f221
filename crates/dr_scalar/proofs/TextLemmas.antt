-- Where the leaves in it were read of a row, a text has the value that it has in the row.
use Rattle.std.proofs.Common.{◌≡◌, ℕ, List, Bool, true, Option, refl, sym, ap, ap₂, subst, ◌∙◌}
use Rattle.dr_meaning.specs.Path.{Leaf}
use Rattle.dr_meaning.specs.Record.{Value, Node}
use Rattle.dr_meaning.specs.Expression.{Expression, plus, combine, on_both, evaluate}
use Rattle.dr_meaning.specs.BoundExpression.{text_type}
use Rattle.dr_plan.specs.declared.expression.TextOf as texts
use Rattle.dr_plan.specs.declared.expression.TextOf.{TextOf}
use Rattle.dr_plan.specs.declared.expression.TextOf.TheOpen.{TextOf-F}
use Rattle.dr_plan.specs.declared.expression.TextOf.TheFolds as text_folds
use Rattle.dr_plan.specs.Views.{text_view, text_step}
use Rattle.dr_plan.specs.Fitting.{text_fits, text_fits_step}
use Rattle.dr_scalar.specs.Leaves.{text_leaves, text_leaves_step}
use Rattle.dr_scalar.specs.LeafLaws.{AreRead, are_typed}
use Rattle.dr_scalar.specs.OverSlots.{text_over, text_over_step}
use Rattle.dr_scalar.proofs.LeafLemmas.{first_holds, second_holds, leaf_means}
use Rattle.dr_scalar.proofs.ReadLemmas.{first_read, second_read}

abbrev TextMeans : List Leaf → (ℕ → Option Value) → Node → TextOf → Type 0
TextMeans ls read row n = text_fits ls n ≡ true → AreRead ls (text_leaves n) read row → text_over read n ≡ evaluate (text_view ls n) row

-- a text's node, whose operands have their values
abbrev TextNode : List Leaf → (ℕ → Option Value) → Node → Type 0
TextNode ls read row = TextOf-F ((n : TextOf) × TextMeans ls read row n)

abbrev bare_text : (ls : List Leaf) (read : ℕ → Option Value) (row : Node) → TextNode ls read row → TextOf-F TextOf
bare_text ls read row y = text_folds.map-TextOf ((n : TextOf) × TextMeans ls read row n) TextOf (λ e. e.0) y

text_node : (ls : List Leaf) (read : ℕ → Option Value) (row : Node) → are_typed ls row ≡ true → (y : TextNode ls read row)
    → text_fits_step ls (text_folds.map-TextOf TextOf Bool (text_fits ls) (bare_text ls read row y)) ≡ true
    → AreRead ls (text_leaves_step (text_folds.map-TextOf TextOf (List ℕ) text_leaves (bare_text ls read row y))) read row
    → text_over_step read (text_folds.map-TextOf TextOf (Option Value) (text_over read) (bare_text ls read row y)) ≡ evaluate (text_step ls (text_folds.map-TextOf TextOf Expression (text_view ls) (bare_text ls read row y))) row
text_node ls read row v (TextOf-F.Literal s) h r = refl
text_node ls read row v (TextOf-F.Leaf i) h r = leaf_means ls read row v text_type i h r
text_node ls read row v (TextOf-F.Join a b) h r =
    ap₂ (on_both (combine plus))
    (a.value.1 (first_holds _ _ h) (first_read ls (text_leaves a.value.0) (text_leaves b.value.0) read row r))
    (b.value.1 (second_holds _ _ h) (second_read ls (text_leaves a.value.0) (text_leaves b.value.0) read row r))

text_rolled : (ls : List Leaf) (read : ℕ → Option Value) (row : Node) → are_typed ls row ≡ true → (y : TextNode ls read row) → TextMeans ls read row (texts.roll-TextOf (bare_text ls read row y))
text_rolled ls read row v y h r =
    let x = bare_text ls read row y in
    text_folds.fold-roll-TextOf (Option Value) (text_over_step read) x
    ∙ (text_node ls read row v y (sym (text_folds.fold-roll-TextOf Bool (text_fits_step ls) x) ∙ h) (subst (λ ks. AreRead ls ks read row) (text_folds.fold-roll-TextOf (List ℕ) text_leaves_step x) r)
    ∙ ap (λ e. evaluate e row) (sym (text_folds.fold-roll-TextOf Expression (text_step ls) x)))

pub text_means : (ls : List Leaf) (read : ℕ → Option Value) (row : Node) → are_typed ls row ≡ true → (n : TextOf) → TextMeans ls read row n
text_means ls read row v = text_folds.ind-TextOf (TextMeans ls read row) (λ x y is. subst (λ z. TextMeans ls read row (texts.roll-TextOf z)) is (text_rolled ls read row v y))
