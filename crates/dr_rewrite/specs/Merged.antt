-- The aggregates that merge columns of results.
use Rattle.std.specs.Prelude.{ℕ, ◌+◌, List}
use Rattle.dr_nested.specs.declared.shape.Kind.{Kind}
use Rattle.dr_plan.specs.declared.aggregate.Aggregate.{Aggregate}
use Rattle.dr_plan.specs.declared.aggregate.Fold.{Fold}
use Rattle.dr_plan.specs.declared.expression.Expr.{Expr}
use Rattle.dr_plan.specs.declared.expression.Number.TheVariants as number
use Rattle.dr_plan.specs.declared.expression.TextOf.TheVariants as text
use Rattle.dr_plan.specs.declared.expression.Truth.TheVariants as truth
use Rattle.dr_rewrite.specs.Items.{indexed}
use Rattle.dr_rewrite.specs.RowColumns.{aggregate_kind}

-- the value of the column of a number, by its kind
abbrev pub column_value : Kind → ℕ → Expr
column_value Kind.Bool i = Expr.Truth (truth.Leaf i)
column_value Kind.I32 i = Expr.Number (number.Leaf i)
column_value Kind.I64 i = Expr.Number (number.Leaf i)
column_value Kind.Text i = Expr.Text (text.Leaf i)

-- counts are merged by SUM, all else by itself
abbrev pub summed_count : Fold → Fold
summed_count Fold.Count = Fold.Sum
summed_count f = f

abbrev pub merging_fold : Aggregate → Fold
merging_fold Aggregate.Rows = Fold.Sum
merging_fold (Aggregate.Of f e) = summed_count f

-- the aggregate that merges the column of a number, which has the values of another
abbrev pub merged : ℕ → Aggregate → Aggregate
merged i a = Aggregate.Of (merging_fold a) (column_value (aggregate_kind a) i)

-- those that merge the columns of others, behind so many keys
abbrev pub merged_aggregates : ℕ → List Aggregate → List Aggregate
merged_aggregates keys gs = indexed (λ (i : ℕ) (a : Aggregate). merged (keys + i) a) 0 gs

-- the numbers of the keys' columns
abbrev pub key_numbers : List ℕ → List ℕ
key_numbers keys = indexed (λ (i k : ℕ). i) 0 keys
