-- Where the leaves in it were read of a row, a number has the value that it has in the row.
use Rattle.std.proofs.Common.{◌≡◌, ℕ, List, pos, Bool, true, Option, Some, refl, sym, ap, ap₂, subst, ◌∙◌}
use Rattle.dr_meaning.specs.Path.{Leaf}
use Rattle.dr_meaning.specs.Record.{Value, int_value, Node}
use Rattle.dr_meaning.specs.Expression.{Expression, plus, minus, times, combine, on_both, subtract_values, evaluate}
use Rattle.dr_meaning.specs.BoundExpression.{number_type}
use Rattle.dr_plan.specs.declared.expression.Number as numbers
use Rattle.dr_plan.specs.declared.expression.Number.{Number}
use Rattle.dr_plan.specs.declared.expression.Number.TheOpen.{Number-F}
use Rattle.dr_plan.specs.declared.expression.Number.TheFolds as number_folds
use Rattle.dr_plan.specs.Views.{number_view, number_step}
use Rattle.dr_plan.specs.Fitting.{number_fits, number_fits_step}
use Rattle.dr_scalar.specs.Leaves.{number_leaves, number_leaves_step}
use Rattle.dr_scalar.specs.LeafLaws.{AreRead, are_typed}
use Rattle.dr_scalar.specs.OverSlots.{number_over, number_over_step}
use Rattle.dr_scalar.proofs.LeafLemmas.{first_holds, second_holds, leaf_means}
use Rattle.dr_scalar.proofs.ReadLemmas.{first_read, second_read}

abbrev NumberMeans : List Leaf → (ℕ → Option Value) → Node → Number → Type 0
NumberMeans ls read row n = number_fits ls n ≡ true → AreRead ls (number_leaves n) read row → number_over read n ≡ evaluate (number_view ls n) row

-- a number's node, whose operands have their values
abbrev NumberNode : List Leaf → (ℕ → Option Value) → Node → Type 0
NumberNode ls read row = Number-F ((n : Number) × NumberMeans ls read row n)

abbrev bare_number : (ls : List Leaf) (read : ℕ → Option Value) (row : Node) → NumberNode ls read row → Number-F Number
bare_number ls read row y = number_folds.map-Number ((n : Number) × NumberMeans ls read row n) Number (λ e. e.0) y

number_node : (ls : List Leaf) (read : ℕ → Option Value) (row : Node) → are_typed ls row ≡ true → (y : NumberNode ls read row)
    → number_fits_step ls (number_folds.map-Number Number Bool (number_fits ls) (bare_number ls read row y)) ≡ true
    → AreRead ls (number_leaves_step (number_folds.map-Number Number (List ℕ) number_leaves (bare_number ls read row y))) read row
    → number_over_step read (number_folds.map-Number Number (Option Value) (number_over read) (bare_number ls read row y)) ≡ evaluate (number_step ls (number_folds.map-Number Number Expression (number_view ls) (bare_number ls read row y))) row
number_node ls read row v (Number-F.Literal z) h r = refl
number_node ls read row v (Number-F.Leaf i) h r = leaf_means ls read row v number_type i h r
number_node ls read row v (Number-F.Negative a) h r = ap (on_both subtract_values (Some (int_value (pos 0)))) (a.value.1 h r)
number_node ls read row v (Number-F.Add a b) h r =
    ap₂ (on_both (combine plus))
    (a.value.1 (first_holds _ _ h) (first_read ls (number_leaves a.value.0) (number_leaves b.value.0) read row r))
    (b.value.1 (second_holds _ _ h) (second_read ls (number_leaves a.value.0) (number_leaves b.value.0) read row r))
number_node ls read row v (Number-F.Subtract a b) h r =
    ap₂ (on_both (combine minus))
    (a.value.1 (first_holds _ _ h) (first_read ls (number_leaves a.value.0) (number_leaves b.value.0) read row r))
    (b.value.1 (second_holds _ _ h) (second_read ls (number_leaves a.value.0) (number_leaves b.value.0) read row r))
number_node ls read row v (Number-F.Multiply a b) h r =
    ap₂ (on_both (combine times))
    (a.value.1 (first_holds _ _ h) (first_read ls (number_leaves a.value.0) (number_leaves b.value.0) read row r))
    (b.value.1 (second_holds _ _ h) (second_read ls (number_leaves a.value.0) (number_leaves b.value.0) read row r))

number_rolled : (ls : List Leaf) (read : ℕ → Option Value) (row : Node) → are_typed ls row ≡ true → (y : NumberNode ls read row) → NumberMeans ls read row (numbers.roll-Number (bare_number ls read row y))
number_rolled ls read row v y h r =
    let x = bare_number ls read row y in
    number_folds.fold-roll-Number (Option Value) (number_over_step read) x
    ∙ (number_node ls read row v y (sym (number_folds.fold-roll-Number Bool (number_fits_step ls) x) ∙ h) (subst (λ ks. AreRead ls ks read row) (number_folds.fold-roll-Number (List ℕ) number_leaves_step x) r)
    ∙ ap (λ e. evaluate e row) (sym (number_folds.fold-roll-Number Expression (number_step ls) x)))

pub number_means : (ls : List Leaf) (read : ℕ → Option Value) (row : Node) → are_typed ls row ≡ true → (n : Number) → NumberMeans ls read row n
number_means ls read row v = number_folds.ind-Number (NumberMeans ls read row) (λ x y is. subst (λ z. NumberMeans ls read row (numbers.roll-Number z)) is (number_rolled ls read row v y))
