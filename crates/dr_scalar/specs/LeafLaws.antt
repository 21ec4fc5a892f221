-- The value of an expression in a row, by what was read of the leaves in it alone.
use Rattle.std.specs.Prelude.{◌≡◌, ℕ, List, [], ◌∷◌, map, Bool, true, Option}
use Rattle.std.specs.List.{list_all, flat_map, slice_get}
use Rattle.dr_meaning.specs.Path.{Leaf}
use Rattle.dr_meaning.specs.Record.{Value, Node}
use Rattle.dr_meaning.specs.Rows.{value_at}
use Rattle.dr_meaning.specs.Expression.{Expression, evaluate, is_true, paths_of}
use Rattle.dr_meaning.specs.BoundExpression.{kind_type}
use Rattle.dr_meaning.specs.BindingLaws.{is_of_type}
use Rattle.dr_plan.specs.Conjuncts.{conjuncts}
use Rattle.dr_plan.specs.Fitting.{expr_fits, truth_fits}
use Rattle.dr_plan.specs.Views.{path_of, expr_view, truth_view}
use Rattle.dr_plan.specs.declared.expression.Expr.{Expr}
use Rattle.dr_plan.specs.declared.expression.Truth.{Truth}
use Rattle.dr_scalar.specs.Leaves.{expr_leaves, tests_leaves}
use Rattle.dr_scalar.specs.OverSlots.{expr_over, tests_over}

-- what was read of the leaves of these numbers are their values in the row
abbrev pub AreRead : List Leaf → List ℕ → (ℕ → Option Value) → Node → Type 0
AreRead ls [] read row = Unit {0}
AreRead ls (k ∷ ks) read row = (read k ≡ value_at (path_of (slice_get ls k)) row) × AreRead ls ks read row

-- whether the row's value of each leaf is of the leaf's type, where it isn't NULL
abbrev pub are_typed : List Leaf → Node → Bool
are_typed ls row = list_all (λ (l : Leaf). is_of_type (kind_type l.kind) (value_at l.path row)) ls

-- where the leaves in an expression were read of a row, its value is that in the row, whatever was read of the others
abbrev pub LeavesTell : Type 0
LeavesTell = (ls : List Leaf) (e : Expr) (read : ℕ → Option Value) (row : Node) → expr_fits ls e ≡ true → are_typed ls row ≡ true
    → AreRead ls (expr_leaves e) read row → expr_over read e ≡ evaluate (expr_view ls e) row

-- the same of the tests that are the conjuncts of a condition
abbrev pub TestLeavesTell : Type 0
TestLeavesTell = (ls : List Leaf) (ts : List Truth) (c : Expression) (read : ℕ → Option Value) (row : Node) → list_all (truth_fits ls) ts ≡ true
    → are_typed ls row ≡ true → map (truth_view ls) ts ≡ conjuncts c → AreRead ls (tests_leaves ts) read row → tests_over read ts ≡ is_true (evaluate c row)

-- the leaves in an expression are its paths, in order
abbrev pub LeavesArePaths : Type 0
LeavesArePaths = (ls : List Leaf) (e : Expr) → map (λ k. path_of (slice_get ls k)) (expr_leaves e) ≡ paths_of (expr_view ls e)

-- the same of tests
abbrev pub TestLeavesArePaths : Type 0
TestLeavesArePaths = (ls : List Leaf) (ts : List Truth)
    → map (λ k. path_of (slice_get ls k)) (tests_leaves ts) ≡ flat_map paths_of (map (truth_view ls) ts)

-- what was read of the leaves of these numbers is the same in both
abbrev pub SameRead : List ℕ → (ℕ → Option Value) → (ℕ → Option Value) → Type 0
SameRead [] r s = Unit {0}
SameRead (k ∷ ks) r s = (r k ≡ s k) × SameRead ks r s

-- what was read of the leaves in an expression alone decides its value, of whatever types it is
abbrev pub SameLeavesTell : Type 0
SameLeavesTell = (e : Expr) (r s : ℕ → Option Value) → SameRead (expr_leaves e) r s → expr_over r e ≡ expr_over s e

-- the same of tests
abbrev pub SameTestLeavesTell : Type 0
SameTestLeavesTell = (ts : List Truth) (r s : ℕ → Option Value) → SameRead (tests_leaves ts) r s → tests_over r ts ≡ tests_over s ts
