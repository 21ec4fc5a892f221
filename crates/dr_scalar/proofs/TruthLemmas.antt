-- Where the leaves in it were read of a row, a truth value has the value that it has in the row.
use Rattle.std.proofs.Common.{◌≡◌, ℕ, List, Bool, true, Option, refl, sym, ap, ap₂, string_bytes, chars, subst, ◌∙◌}
use Rattle.dr_meaning.specs.Path.{Leaf}
use Rattle.dr_meaning.specs.Record.{Value, Node}
use Rattle.dr_meaning.specs.Expression.{Expression, compared, on_both, on_text, matches, occurs_in, not_value, and_values, or_values, null_test, evaluate}
use Rattle.dr_meaning.specs.BoundExpression.{truth_type}
use Rattle.dr_plan.specs.declared.expression.Truth as truths
use Rattle.dr_plan.specs.declared.expression.Truth.{Truth}
use Rattle.dr_plan.specs.declared.expression.Truth.TheOpen.{Truth-F}
use Rattle.dr_plan.specs.declared.expression.Truth.TheFolds as truth_folds
use Rattle.dr_plan.specs.Views.{truth_view, truth_step}
use Rattle.dr_plan.specs.Fitting.{truth_fits, truth_fits_step}
use Rattle.dr_scalar.specs.Leaves.{number_leaves, text_leaves, truth_leaves, truth_leaves_step}
use Rattle.dr_scalar.specs.LeafLaws.{AreRead, are_typed}
use Rattle.dr_scalar.specs.OverSlots.{truth_over, truth_over_step}
use Rattle.dr_scalar.proofs.LeafLemmas.{first_holds, second_holds, leaf_means}
use Rattle.dr_scalar.proofs.ReadLemmas.{first_read, second_read}
use Rattle.dr_plan.specs.Views.{comparison_view}
use Rattle.dr_scalar.proofs.NumberLemmas.{number_means}
use Rattle.dr_scalar.proofs.TextLemmas.{text_means}

abbrev TruthMeans : List Leaf → (ℕ → Option Value) → Node → Truth → Type 0
TruthMeans ls read row n = truth_fits ls n ≡ true → AreRead ls (truth_leaves n) read row → truth_over read n ≡ evaluate (truth_view ls n) row

-- a truth's node, whose operands have their values
abbrev TruthNode : List Leaf → (ℕ → Option Value) → Node → Type 0
TruthNode ls read row = Truth-F ((n : Truth) × TruthMeans ls read row n)

abbrev bare_truth : (ls : List Leaf) (read : ℕ → Option Value) (row : Node) → TruthNode ls read row → Truth-F Truth
bare_truth ls read row y = truth_folds.map-Truth ((n : Truth) × TruthMeans ls read row n) Truth (λ e. e.0) y

truth_node : (ls : List Leaf) (read : ℕ → Option Value) (row : Node) → are_typed ls row ≡ true → (y : TruthNode ls read row)
    → truth_fits_step ls (truth_folds.map-Truth Truth Bool (truth_fits ls) (bare_truth ls read row y)) ≡ true
    → AreRead ls (truth_leaves_step (truth_folds.map-Truth Truth (List ℕ) truth_leaves (bare_truth ls read row y))) read row
    → truth_over_step read (truth_folds.map-Truth Truth (Option Value) (truth_over read) (bare_truth ls read row y)) ≡ evaluate (truth_step ls (truth_folds.map-Truth Truth Expression (truth_view ls) (bare_truth ls read row y))) row
truth_node ls read row v (Truth-F.Literal b) h r = refl
truth_node ls read row v (Truth-F.Leaf i) h r = leaf_means ls read row v truth_type i h r
truth_node ls read row v (Truth-F.Not a) h r = ap not_value (a.value.1 h r)
truth_node ls read row v (Truth-F.And a b) h r =
    ap₂ and_values
    (a.value.1 (first_holds _ _ h) (first_read ls (truth_leaves a.value.0) (truth_leaves b.value.0) read row r))
    (b.value.1 (second_holds _ _ h) (second_read ls (truth_leaves a.value.0) (truth_leaves b.value.0) read row r))
truth_node ls read row v (Truth-F.Or a b) h r =
    ap₂ or_values
    (a.value.1 (first_holds _ _ h) (first_read ls (truth_leaves a.value.0) (truth_leaves b.value.0) read row r))
    (b.value.1 (second_holds _ _ h) (second_read ls (truth_leaves a.value.0) (truth_leaves b.value.0) read row r))
truth_node ls read row v (Truth-F.Numbers c a b) h r =
    ap₂ (on_both (compared (comparison_view c)))
    (number_means ls read row v a (first_holds _ _ h) (first_read ls (number_leaves a) (number_leaves b) read row r))
    (number_means ls read row v b (second_holds _ _ h) (second_read ls (number_leaves a) (number_leaves b) read row r))
truth_node ls read row v (Truth-F.Texts c a b) h r =
    ap₂ (on_both (compared (comparison_view c)))
    (text_means ls read row v a (first_holds _ _ h) (first_read ls (text_leaves a) (text_leaves b) read row r))
    (text_means ls read row v b (second_holds _ _ h) (second_read ls (text_leaves a) (text_leaves b) read row r))
truth_node ls read row v (Truth-F.Truths c a b) h r =
    ap₂ (on_both (compared (comparison_view c)))
    (a.value.1 (first_holds _ _ h) (first_read ls (truth_leaves a.value.0) (truth_leaves b.value.0) read row r))
    (b.value.1 (second_holds _ _ h) (second_read ls (truth_leaves a.value.0) (truth_leaves b.value.0) read row r))
truth_node ls read row v (Truth-F.Like a p) h r = ap (on_text (λ t. matches (chars (string_bytes p)) (chars t))) (text_means ls read row v a h r)
truth_node ls read row v (Truth-F.Contains a s) h r = ap (on_text (occurs_in (string_bytes s))) (text_means ls read row v a h r)
truth_node ls read row v (Truth-F.NumberIsNull a) h r = ap null_test (number_means ls read row v a h r)
truth_node ls read row v (Truth-F.TextIsNull a) h r = ap null_test (text_means ls read row v a h r)
truth_node ls read row v (Truth-F.TruthIsNull a) h r = ap null_test (a.value.1 h r)

truth_rolled : (ls : List Leaf) (read : ℕ → Option Value) (row : Node) → are_typed ls row ≡ true → (y : TruthNode ls read row) → TruthMeans ls read row (truths.roll-Truth (bare_truth ls read row y))
truth_rolled ls read row v y h r =
    let x = bare_truth ls read row y in
    truth_folds.fold-roll-Truth (Option Value) (truth_over_step read) x
    ∙ (truth_node ls read row v y (sym (truth_folds.fold-roll-Truth Bool (truth_fits_step ls) x) ∙ h) (subst (λ ks. AreRead ls ks read row) (truth_folds.fold-roll-Truth (List ℕ) truth_leaves_step x) r)
    ∙ ap (λ e. evaluate e row) (sym (truth_folds.fold-roll-Truth Expression (truth_step ls) x)))

pub truth_means : (ls : List Leaf) (read : ℕ → Option Value) (row : Node) → are_typed ls row ≡ true → (n : Truth) → TruthMeans ls read row n
truth_means ls read row v = truth_folds.ind-Truth (TruthMeans ls read row) (λ x y is. subst (λ z. TruthMeans ls read row (truths.roll-Truth z)) is (truth_rolled ls read row v y))
