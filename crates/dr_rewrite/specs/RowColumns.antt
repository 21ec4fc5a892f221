-- The columns of a result's rows, as leaves.
use Rattle.std.specs.Prelude.{ℕ, ◌+◌, List, [], ◌∷◌, ◌++◌, length, Option, Some, None}
use Rattle.std.specs.List.{slice_get}
use Rattle.dr_meaning.specs.Path.{Leaf}
use Rattle.dr_meaning.specs.Schema as schema
use Rattle.dr_nested.specs.Views.{kind_view}
use Rattle.dr_nested.specs.declared.shape.Kind.{Kind}
use Rattle.dr_partials.specs.Rewriting.{column}
use Rattle.dr_plan.specs.declared.aggregate.Aggregate.{Aggregate}
use Rattle.dr_plan.specs.declared.aggregate.Fold.{Fold}
use Rattle.dr_plan.specs.declared.expression.Expr.{Expr}
use Rattle.dr_rewrite.specs.Items.{indexed, key_name, aggregate_name}

-- the column of a place, by its name
abbrev pub column_leaf : List ℕ → ℕ → schema.Kind → Leaf
column_leaf name i k = record { names = name ∷ []; path = column i; kind = k }

-- a key's column has the kind of its leaf
abbrev pub kind_of : Option Leaf → schema.Kind
kind_of None = schema.int64_kind
kind_of (Some l) = l.kind

abbrev pub key_kind : List Leaf → ℕ → schema.Kind
key_kind ls k = kind_of (slice_get ls k)

-- one that has an expression's values has their type; numbers are of 64 bits
abbrev pub value_kind : Expr → Kind
value_kind (Expr.Truth e) = Kind.Bool
value_kind (Expr.Number e) = Kind.I64
value_kind (Expr.Text e) = Kind.Text

-- a count and a sum are numbers; a least and a greatest value are as the argument's are
abbrev pub folded_kind : Fold → Expr → Kind
folded_kind Fold.Count e = Kind.I64
folded_kind Fold.Sum e = Kind.I64
folded_kind Fold.Least e = value_kind e
folded_kind Fold.Greatest e = value_kind e

abbrev pub aggregate_kind : Aggregate → Kind
aggregate_kind Aggregate.Rows = Kind.I64
aggregate_kind (Aggregate.Of f e) = folded_kind f e

-- the column of a key, and that of an aggregate behind so many keys
abbrev pub key_column : List Leaf → ℕ → ℕ → Leaf
key_column ls i k = column_leaf (key_name i) i (key_kind ls k)

abbrev pub aggregate_column : ℕ → ℕ → Aggregate → Leaf
aggregate_column keys i a = column_leaf (aggregate_name i) (keys + i) (kind_view (aggregate_kind a))

-- each key's, then each aggregate's
abbrev pub row_columns : List Leaf → List ℕ → List Aggregate → List Leaf
row_columns ls keys gs = indexed (key_column ls) 0 keys ++ indexed (aggregate_column (length keys)) 0 gs
