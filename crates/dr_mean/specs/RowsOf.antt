-- Rows of a record of a schema, as what is known of them.
use Rattle.std.specs.Prelude.{◌≡◌, List, map, true, ℕ, length, Option}
use Rattle.dr_meaning.specs.Path.{Step, Leaf}
use Rattle.dr_meaning.specs.Schema.{Fields}
use Rattle.dr_meaning.specs.Record.{Node}
use Rattle.dr_meaning.specs.Query.{Query}
use Rattle.dr_meaning.specs.QueryLeaves.{query_leaves}
use Rattle.dr_meaning.specs.BindingLaws.{has_shapes}
use Rattle.dr_nested.specs.PathView.{path_view, paths_view}
use Rattle.dr_nested.specs.declared.path.Path.{Path}
use Rattle.dr_rows.specs.Known.{Known, known, is_cut}
use Rattle.dr_rows.specs.Views.{row_view, AreRowsOf}
use Rattle.dr_rows.specs.declared.row.Row.{Row}
use Rattle.dr_rows.specs.declared.table.Rows.{Rows}
use Rattle.dr_levels.specs.declared.triplet.ValueRef.{ValueRef}
use Rattle.dr_plan.specs.Fitting.{expr_fits}
use Rattle.dr_plan.specs.declared.expression.Expr.{Expr}
use Rattle.dr_scalar.specs.Slots.{AreValues}

-- the leaves are those of a query, and the record has values of their types: it is one of the schema, a projection, or a row of one
pub record IsTyped (leaves : List Path) (whole : Node) : Type 0 where
  pub fields : Fields
  pub query : Query
  pub used : map path_view leaves ≡ query_leaves fields query
  pub shapes : has_shapes fields whole ≡ true

-- that is known of a row of a record along a chain
pub record IsRow (leaves : List Path) (chain : List Step) (k : Known) (row : Node) : Type 0 where
  pub typed : IsTyped leaves row
  pub cut : is_cut chain row ≡ true
  pub is : k ≡ known (paths_view leaves) chain row

-- what is said of the rows of a chain of a record, of which these are what is known
abbrev pub OverRows : List Path → Rows → (List Step → Node → Type 0) → Type 0
OverRows leaves t says = (chain : List Step) (whole : Node) → IsTyped leaves whole → AreRowsOf leaves chain whole t → says chain whole

-- what is said of a row, along a chain of so many steps, of which this is what is known
abbrev pub OverRow : List Path → ℕ → Row → (List Step → Node → Type 0) → Type 0
OverRow leaves depth row says = (chain : List Step) (whole : Node) → IsRow leaves chain (row_view row) whole → length chain ≡ depth → says chain whole

-- what is said of a row by the values of these leaves, which an expression fits
abbrev pub OverValues : List (Option ValueRef) → Expr → (List Leaf → Node → Type 0) → Type 0
OverValues values e says = (ls : List Leaf) (row : Node) → AreValues ls values row → expr_fits ls e ≡ true → says ls row
