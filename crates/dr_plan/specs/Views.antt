-- What the parts of a plan stand for, in the definitions' words.
use Rattle.std.specs.Prelude.{ℕ, List, [], map, string_bytes, Option, Some, None}
use Rattle.std.specs.List.{slice_get}
use Rattle.dr_meaning.specs.Path.{Step as MeantStep, Leaf}
use Rattle.dr_meaning.specs.Record.{bool_value, int_value, text_value}
use Rattle.dr_meaning.specs.Expression as meant
use Rattle.dr_meaning.specs.Query as query
use Rattle.dr_nested.specs.PathView.{step_view}
use Rattle.dr_plan.specs.Conjuncts as cut
use Rattle.dr_plan.specs.declared.expression.Comparison.{Comparison}
use Rattle.dr_plan.specs.declared.expression.Number.{Number, fold-Number}
use Rattle.dr_plan.specs.declared.expression.Number.TheOpen.{Number-F}
use Rattle.dr_plan.specs.declared.expression.TextOf.{TextOf, fold-TextOf}
use Rattle.dr_plan.specs.declared.expression.TextOf.TheOpen.{TextOf-F}
use Rattle.dr_plan.specs.declared.expression.Truth.{Truth, fold-Truth}
use Rattle.dr_plan.specs.declared.expression.Truth.TheOpen.{Truth-F}
use Rattle.dr_plan.specs.declared.expression.Expr.{Expr}
use Rattle.dr_plan.specs.declared.joining.Joining.{Joining, fold-Joining}
use Rattle.dr_plan.specs.declared.joining.Joining.TheOpen.{Joining-F}
use Rattle.dr_plan.specs.declared.aggregate.Fold.{Fold}
use Rattle.dr_plan.specs.declared.aggregate.Aggregate.{Aggregate}
use Rattle.dr_plan.specs.declared.plan.RecordTerm.{RecordTerm}
use Rattle.dr_plan.specs.declared.plan.RecordItem.{RecordItem}
use Rattle.dr_plan.specs.declared.plan.GroupTerm.{GroupTerm}
use Rattle.dr_plan.specs.declared.plan.GroupItem.{GroupItem}
use Rattle.dr_plan.specs.declared.plan.Selection.{Selection}

abbrev pub comparison_view : Comparison → meant.Comparison
comparison_view Comparison.Equal = meant.equal
comparison_view Comparison.Unequal = meant.unequal
comparison_view Comparison.Less = meant.less
comparison_view Comparison.AtMost = meant.at_most
comparison_view Comparison.Greater = meant.greater
comparison_view Comparison.AtLeast = meant.at_least

-- ---- expressions, over the plan's leaves

abbrev pub path_of : Option Leaf → List MeantStep
path_of None = []
path_of (Some l) = l.path

-- the value of the leaf of this number
abbrev pub leaf_value : List Leaf → ℕ → meant.Expression
leaf_value ls i = meant.path_value (path_of (slice_get ls i))

abbrev pub number_step : List Leaf → Number-F meant.Expression → meant.Expression
number_step ls (Number-F.Literal z) = meant.constant (int_value z)
number_step ls (Number-F.Leaf i) = leaf_value ls i
number_step ls (Number-F.Negative a) = meant.negative a.value
number_step ls (Number-F.Add a b) = meant.arithmetic meant.plus a.value b.value
number_step ls (Number-F.Subtract a b) = meant.arithmetic meant.minus a.value b.value
number_step ls (Number-F.Multiply a b) = meant.arithmetic meant.times a.value b.value

abbrev pub number_view : List Leaf → Number → meant.Expression
number_view ls = fold-Number meant.Expression (number_step ls)

abbrev pub text_step : List Leaf → TextOf-F meant.Expression → meant.Expression
text_step ls (TextOf-F.Literal s) = meant.constant (text_value (string_bytes s))
text_step ls (TextOf-F.Leaf i) = leaf_value ls i
text_step ls (TextOf-F.Join a b) = meant.arithmetic meant.plus a.value b.value

abbrev pub text_view : List Leaf → TextOf → meant.Expression
text_view ls = fold-TextOf meant.Expression (text_step ls)

abbrev pub truth_step : List Leaf → Truth-F meant.Expression → meant.Expression
truth_step ls (Truth-F.Literal b) = meant.constant (bool_value b)
truth_step ls (Truth-F.Leaf i) = leaf_value ls i
truth_step ls (Truth-F.Not a) = meant.negation a.value
truth_step ls (Truth-F.And a b) = meant.conjunction a.value b.value
truth_step ls (Truth-F.Or a b) = meant.disjunction a.value b.value
truth_step ls (Truth-F.Numbers c a b) = meant.comparison (comparison_view c) (number_view ls a) (number_view ls b)
truth_step ls (Truth-F.Texts c a b) = meant.comparison (comparison_view c) (text_view ls a) (text_view ls b)
truth_step ls (Truth-F.Truths c a b) = meant.comparison (comparison_view c) a.value b.value
truth_step ls (Truth-F.Like a p) = meant.like (text_view ls a) (string_bytes p)
truth_step ls (Truth-F.Contains a s) = meant.contains (text_view ls a) (string_bytes s)
truth_step ls (Truth-F.NumberIsNull a) = meant.is_null (number_view ls a)
truth_step ls (Truth-F.TextIsNull a) = meant.is_null (text_view ls a)
truth_step ls (Truth-F.TruthIsNull a) = meant.is_null a.value

abbrev pub truth_view : List Leaf → Truth → meant.Expression
truth_view ls = fold-Truth meant.Expression (truth_step ls)

abbrev pub expr_view : List Leaf → Expr → meant.Expression
expr_view ls (Expr.Truth a) = truth_view ls a
expr_view ls (Expr.Number a) = number_view ls a
expr_view ls (Expr.Text a) = text_view ls a

-- ---- how a condition was written

abbrev pub joining_step : Joining-F cut.Joining → cut.Joining
joining_step (Joining-F.Conjunct n) = cut.by_number n
joining_step (Joining-F.And a b) = cut.by_and a.value b.value

abbrev pub joining_view : Joining → cut.Joining
joining_view = fold-Joining cut.Joining joining_step

-- ---- selections

abbrev pub fold_view : Fold → query.Aggregate
fold_view Fold.Count = query.count
fold_view Fold.Sum = query.sum
fold_view Fold.Least = query.least
fold_view Fold.Greatest = query.greatest

abbrev pub record_term_view : List Leaf → RecordTerm → query.RecordTerm
record_term_view ls (RecordTerm.Value e) = query.expression (expr_view ls e)
record_term_view ls (RecordTerm.Within w) = query.within (fold_view w.fold) (expr_view ls w.argument) (map step_view w.node.items)

abbrev pub record_item_view : List Leaf → RecordItem → query.RecordItem
record_item_view ls i = record { name = string_bytes i.name; term = record_term_view ls i.term }

abbrev pub aggregate_view : List Leaf → Aggregate → query.GroupTerm
aggregate_view ls Aggregate.Rows = query.count_rows
aggregate_view ls (Aggregate.Of f e) = query.aggregate (fold_view f) (expr_view ls e)

abbrev pub found_term : Option query.GroupTerm → query.GroupTerm
found_term None = query.count_rows
found_term (Some t) = t

-- a key by its number, or the aggregate of a number
abbrev pub group_term_view : List query.GroupTerm → GroupTerm → query.GroupTerm
group_term_view ts (GroupTerm.Key k) = query.key k
group_term_view ts (GroupTerm.Aggregate a) = found_term (slice_get ts a)

abbrev pub group_item_view : List query.GroupTerm → GroupItem → query.GroupItem
group_item_view ts i = record { name = string_bytes i.name; term = group_term_view ts i.term }

abbrev pub selection_view : List Leaf → Selection → query.Selection
selection_view ls (Selection.Objects items o) = query.objects (map (record_item_view ls) items.items)
selection_view ls (Selection.Groups keys aggregates items) =
    query.groups (map (λ k. path_of (slice_get ls k)) keys.items) (map (group_item_view (map (aggregate_view ls) aggregates.items)) items.items)
