-- Expressions that are a leaf's own value.
use Rattle.std.specs.Prelude.{◌≡◌, ℕ, List, map, Option, None}
use Rattle.dr_meaning.specs.Record.{Value}
use Rattle.dr_meaning.specs.Column.{Triplet}
use Rattle.dr_plan.specs.declared.expression.Expr.{Expr}
use Rattle.dr_rows_beside.specs.Rows.{Row, in_slot}
use Rattle.dr_rows_beside.specs.ExprRows.{value_in}

-- what leaves NULL and the values of these triplets as they are leaves these values as they are
abbrev pub AreOf : List Triplet → List (Option Value) → Type 0
AreOf ts vs = (f : Option Value → Option Value) → f None ≡ None → map f (map (λ (t : Triplet). t.value) ts) ≡ map (λ (t : Triplet). t.value) ts → map f vs ≡ vs

-- in rows whose slots of the leaf have values of these triplets, or NULL, it has those
abbrev pub HasOwn : Expr → ℕ → List Triplet → Type 0
HasOwn e leaf ts = (rs : List Row) → AreOf ts (in_slot leaf rs) → map (value_in e) rs ≡ in_slot leaf rs
