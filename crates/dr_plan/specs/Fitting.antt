-- Whether the numbers in a plan are those of leaves, keys and aggregates that it has, each leaf has the type of its place, and what was written
-- is of 64 bits.
use Rattle.std.specs.Prelude.{ℕ, suc, zero, List, [], ◌∷◌, length, Bool, true, false, ◌&&◌, nat_lt, Option, Some, None}
use Rattle.std.specs.List.{list_all, slice_get, filter_map}
use Rattle.dr_meaning.specs.Path.{Leaf}
use Rattle.dr_meaning.specs.Record.{in_int64}
use Rattle.dr_meaning.specs.BoundExpression.{ValueType, truth_type, number_type, text_type, kind_type, same_type}
use Rattle.dr_plan.specs.declared.expression.Number.{Number, fold-Number}
use Rattle.dr_plan.specs.declared.expression.Number.TheOpen.{Number-F}
use Rattle.dr_plan.specs.declared.expression.TextOf.{TextOf, fold-TextOf}
use Rattle.dr_plan.specs.declared.expression.TextOf.TheOpen.{TextOf-F}
use Rattle.dr_plan.specs.declared.expression.Truth.{Truth, fold-Truth}
use Rattle.dr_plan.specs.declared.expression.Truth.TheOpen.{Truth-F}
use Rattle.dr_plan.specs.declared.expression.Expr.{Expr}
use Rattle.dr_plan.specs.declared.aggregate.Fold.{Fold}
use Rattle.dr_plan.specs.declared.aggregate.Aggregate.{Aggregate}
use Rattle.dr_plan.specs.declared.plan.RecordTerm.{RecordTerm}
use Rattle.dr_plan.specs.declared.plan.RecordItem.{RecordItem}
use Rattle.dr_plan.specs.declared.plan.GroupTerm.{GroupTerm}
use Rattle.dr_plan.specs.declared.plan.GroupItem.{GroupItem}
use Rattle.dr_plan.specs.declared.plan.Selection.{Selection}

abbrev pub leaf_has_type : ValueType → Option Leaf → Bool
leaf_has_type t None = false
leaf_has_type t (Some l) = same_type (kind_type l.kind) t

-- ---- expressions: each leaf is there, and of the type of its place; each number that was written is of 64 bits

abbrev pub number_fits_step : List Leaf → Number-F Bool → Bool
number_fits_step ls (Number-F.Literal z) = in_int64 z
number_fits_step ls (Number-F.Leaf i) = leaf_has_type number_type (slice_get ls i)
number_fits_step ls (Number-F.Negative a) = a.value
number_fits_step ls (Number-F.Add a b) = a.value && b.value
number_fits_step ls (Number-F.Subtract a b) = a.value && b.value
number_fits_step ls (Number-F.Multiply a b) = a.value && b.value

abbrev pub number_fits : List Leaf → Number → Bool
number_fits ls = fold-Number Bool (number_fits_step ls)

abbrev pub text_fits_step : List Leaf → TextOf-F Bool → Bool
text_fits_step ls (TextOf-F.Literal s) = true
text_fits_step ls (TextOf-F.Leaf i) = leaf_has_type text_type (slice_get ls i)
text_fits_step ls (TextOf-F.Join a b) = a.value && b.value

abbrev pub text_fits : List Leaf → TextOf → Bool
text_fits ls = fold-TextOf Bool (text_fits_step ls)

abbrev pub truth_fits_step : List Leaf → Truth-F Bool → Bool
truth_fits_step ls (Truth-F.Literal b) = true
truth_fits_step ls (Truth-F.Leaf i) = leaf_has_type truth_type (slice_get ls i)
truth_fits_step ls (Truth-F.Not a) = a.value
truth_fits_step ls (Truth-F.And a b) = a.value && b.value
truth_fits_step ls (Truth-F.Or a b) = a.value && b.value
truth_fits_step ls (Truth-F.Numbers c a b) = number_fits ls a && number_fits ls b
truth_fits_step ls (Truth-F.Texts c a b) = text_fits ls a && text_fits ls b
truth_fits_step ls (Truth-F.Truths c a b) = a.value && b.value
truth_fits_step ls (Truth-F.Like a p) = text_fits ls a
truth_fits_step ls (Truth-F.Contains a s) = text_fits ls a
truth_fits_step ls (Truth-F.NumberIsNull a) = number_fits ls a
truth_fits_step ls (Truth-F.TextIsNull a) = text_fits ls a
truth_fits_step ls (Truth-F.TruthIsNull a) = a.value

abbrev pub truth_fits : List Leaf → Truth → Bool
truth_fits ls = fold-Truth Bool (truth_fits_step ls)

abbrev pub expr_fits : List Leaf → Expr → Bool
expr_fits ls (Expr.Truth a) = truth_fits ls a
expr_fits ls (Expr.Number a) = number_fits ls a
expr_fits ls (Expr.Text a) = text_fits ls a

-- ---- selections

-- SUM is of numbers
abbrev pub is_summed : Fold → Expr → Bool
is_summed Fold.Sum (Expr.Truth a) = false
is_summed Fold.Sum (Expr.Text a) = false
is_summed f e = true

abbrev pub record_term_fits : List Leaf → RecordTerm → Bool
record_term_fits ls (RecordTerm.Value e) = expr_fits ls e
record_term_fits ls (RecordTerm.Within w) = expr_fits ls w.argument && is_summed w.fold w.argument

abbrev pub aggregate_fits : List Leaf → Aggregate → Bool
aggregate_fits ls Aggregate.Rows = true
aggregate_fits ls (Aggregate.Of f e) = expr_fits ls e && is_summed f e

-- the key of an item is there
abbrev pub has_key : ℕ → GroupTerm → Bool
has_key keys (GroupTerm.Key k) = nat_lt k keys
has_key keys (GroupTerm.Aggregate a) = true

abbrev pub aggregate_number : GroupTerm → Option ℕ
aggregate_number (GroupTerm.Key k) = None
aggregate_number (GroupTerm.Aggregate a) = Some a

-- the numbers from i on, as many as there are aggregates
abbrev pub are_numbered : ℕ → List ℕ → ℕ → Bool
are_numbered i [] zero = true
are_numbered i [] (suc n) = false
are_numbered i (j ∷ js) zero = false
are_numbered i (j ∷ js) (suc n) = nat_lt i (suc j) && nat_lt j (suc i) && are_numbered (suc i) js n

abbrev pub selection_fits : List Leaf → Selection → Bool
selection_fits ls (Selection.Objects items o) = list_all (λ (i : RecordItem). record_term_fits ls i.term) items.items
selection_fits ls (Selection.Groups keys aggregates items) = list_all (λ k. nat_lt k (length ls)) keys.items && list_all (aggregate_fits ls) aggregates.items
    && list_all (λ (i : GroupItem). has_key (length keys.items) i.term) items.items
    && are_numbered 0 (filter_map (λ (i : GroupItem). aggregate_number i.term) items.items) (length aggregates.items)
