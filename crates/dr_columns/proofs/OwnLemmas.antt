-- Expressions that are a leaf's own value, where all values of the leaf are of their type.
use Rattle.std.proofs.Common.{◌≡◌, ℕ, List, [], ◌∷◌, ◌++◌, map, Option, Some, None, refl, sym, ap, ap₂, ◌∙◌}
use Rattle.dr_meaning.specs.Record.{Value}
use Rattle.dr_meaning.specs.Column.{Triplet}
use Rattle.dr_meaning.specs.BoundExpression.{ValueType}
use Rattle.dr_levels.specs.Dense.{value_list}
use Rattle.dr_levels.specs.Lent.{present_values}
use Rattle.dr_plan.specs.declared.expression.Expr.{Expr}
use Rattle.dr_scalar.specs.OverSlots.{expr_over}
use Rattle.dr_scalar.specs.Slots.{of_type}
use Rattle.dr_rows_beside.specs.ExprRows.{value_in}
use Rattle.dr_columns.specs.Own.{HasOwn}
use Rattle.dr_rows_beside.specs.Rows.{Row, slot_at, in_slot}

-- the values of triplets, and NULLs
abbrev pub triplet_values : List Triplet → List (Option Value)
triplet_values ts = map (λ (t : Triplet). t.value) ts

first_value : (v w : Value) (vs ws : List Value) → v ∷ vs ≡ w ∷ ws → v ≡ w
first_value v w vs ws e = cc

other_values : (v w : Value) (vs ws : List Value) → v ∷ vs ≡ w ∷ ws → vs ≡ ws
other_values v w vs ws e = cc

none_fits : (T : ValueType) → of_type T None ≡ None
none_fits T = refl

module _ {A : Type 0} (see : A → Value) (T : ValueType) (fits : (a : A) → of_type T (Some (see a)) ≡ Some (see a)) where
  -- each value that there is is of the type
  pub all_fit : (ts : List Triplet) (xs : List A) → present_values ts ≡ map see xs → map (of_type T) (triplet_values ts) ≡ triplet_values ts
  all_fit [] xs e = refl
  all_fit (t ∷ ts) xs e = by_value t.value xs e (λ (ys : List A). all_fit ts ys)
    where
      by_value : (o : Option Value) (xs : List A) → value_list o ++ present_values ts ≡ map see xs → ((ys : List A) → present_values ts ≡ map see ys → map (of_type T) (triplet_values ts) ≡ triplet_values ts)
          → of_type T o ∷ map (of_type T) (triplet_values ts) ≡ o ∷ triplet_values ts
      by_value None xs e h = ap (λ (vs : List (Option Value)). None ∷ vs) (h xs e)
      by_value (Some v) [] e h = absurd (cc)
      by_value (Some v) (x ∷ xs) e h =
          let same : v ≡ see x = first_value v (see x) (present_values ts) (map see xs) e in
          ap (λ (o : Option Value). o ∷ map (of_type T) (triplet_values ts)) (ap (λ (w : Value). of_type T (Some w)) same ∙ fits x ∙ ap Some (sym same))
          ∙ ap (λ (vs : List (Option Value)). Some v ∷ vs) (h xs (other_values v (see x) (present_values ts) (map see xs) e))

module _ (x : Expr) (T : ValueType) (leaf : ℕ) (own : (read : ℕ → Option Value) → expr_over read x ≡ of_type T (read leaf)) where
  -- what the leaf's slots have, where it is of the type
  own_read : (rs : List Row) → map (value_in x) rs ≡ map (of_type T) (in_slot leaf rs)
  own_read [] = refl
  own_read (r ∷ rs) = ap₂ (λ (v : Option Value) (vs : List (Option Value)). v ∷ vs) (own (slot_at r.slots)) (own_read rs)

  pub own_values : {A : Type 0} (see : A → Value) (fits : (a : A) → of_type T (Some (see a)) ≡ Some (see a)) (ts : List Triplet) (xs : List A) → present_values ts ≡ map see xs → HasOwn x leaf ts
  own_values see fits ts xs e rs s = own_read rs ∙ s (of_type T) (none_fits T) (all_fit see T fits ts xs e)
