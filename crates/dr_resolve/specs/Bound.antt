-- Expressions as they were bound, against what the definitions make of them.
use Rattle.std.specs.Prelude.{◌≡◌, ◌<◌, ◌^◌, ℕ, List, [], ◌∷◌, map, Bool, true, false, Some}
use Rattle.std.specs.List.{slice_get}
use Rattle.dr_meaning.specs.Schema.{Fields}
use Rattle.dr_meaning.specs.Path.{Leaf, leaves}
use Rattle.dr_meaning.specs.Expression.{Expression, path_value, paths_of}
use Rattle.dr_meaning.specs.BoundExpression as meant
use Rattle.dr_meaning.specs.BoundExpression.{ValueType, truth_type, number_type, text_type}
use Rattle.dr_plan.specs.Views.{expr_view}
use Rattle.dr_plan.specs.Fitting.{expr_fits}
use Rattle.dr_plan.specs.declared.expression.Expr.{Expr}
use Rattle.dr_paths.specs.Numbers.{number_among}
use Rattle.dr_paths.specs.Views.{bound_path_view, paths_at}
use Rattle.dr_resolve.specs.declared.bound.BoundExpression.{BoundExpression}

-- ---- leaves of a plan

-- a leaf of this path and kind is among these, by a number of 32 bits
abbrev pub IsAmong : List Leaf → Leaf → Type 0
IsAmong ls l = (i : ℕ) × (m : Leaf) × (number_among ls l.path ≡ Some i) × (i < 2 ^ 32) × (slice_get ls i ≡ Some m) × (m.path ≡ l.path) × (m.kind ≡ l.kind)

-- the leaves of all of these paths are among these
abbrev pub Covers : List Leaf → List meant.BoundPath → Type 0
Covers ls [] = Unit {0}
Covers ls (p ∷ ps) = IsAmong ls p.leaf × Covers ls ps

-- the leaves of all of these paths are among those of the schema
abbrev pub AreReal : Fields → List meant.BoundPath → Type 0
AreReal fs [] = Unit {0}
AreReal fs (p ∷ ps) = ((i : ℕ) × (slice_get (leaves fs) i ≡ Some p.leaf)) × AreReal fs ps

-- ---- expressions

abbrev pub type_of : Expr → ValueType
type_of (Expr.Truth a) = truth_type
type_of (Expr.Number a) = number_type
type_of (Expr.Text a) = text_type

-- whether an expression is a path alone
abbrev pub is_path_value : Expression → Bool
is_path_value (path_value p) = true
is_path_value e = false

-- the expression of a plan over leaves that cover its paths
pub record Means (ls : List Leaf) (b : meant.BoundExpression) (e : Expr) : Type 0 where
  pub view : expr_view ls e ≡ b.expression
  pub fits : expr_fits ls e ≡ true

-- an expression as it was bound over the fields of a schema and leaves of a plan
pub record IsExpression (fs : Fields) (ls : List Leaf) (b : meant.BoundExpression) (x : BoundExpression) : Type 0 where
  pub gives : type_of x.expression.value ≡ b.gives
  pub paths : map bound_path_view x.paths.items ≡ b.paths
  pub own : paths_of b.expression ≡ paths_at b.paths
  pub alone : x.is_path ≡ is_path_value b.expression
  pub real : AreReal fs b.paths
  pub means : Covers ls b.paths → Means ls b x.expression.value
