-- The order of key tuples, cell by cell.
use Rattle.std.specs.Prelude.{◌≡◌, ◌<◌, ◌≤◌, ℕ, ◌+◌, List, [], ◌∷◌, map, length, get_or, drop, ◌-◌, Option}
use Rattle.std.specs.Ordering.{nat_cmp, ordering_then}
use Rattle.std.specs.declared.cmp.Ordering.{Ordering}
use Rattle.std.specs.declared.cmp.Ordering.TheVariants.{Less, Equal, Greater}
use Rattle.std.proofs.Common.{refl, sym, ap, ap₂, ◌∙◌, arith}
use Rattle.std.proofs.lemmas.List.{drop_more, drop_all, length-drop}
use Rattle.std.specs.Cmp.{nat_cmp_is}
use Rattle.std.specs.Ordering.{MatchOrdering}
use Rattle.dr_meaning.specs.Record as record_tree
use Rattle.dr_meaning.specs.Query.{cell_order, tuple_order}
use Rattle.dr_nested.specs.declared.record.Value.{Value}
use Rattle.dr_group.specs.Views.{cell_view}

abbrev pub order_from : {A : Type 0} → (A → Option record_tree.Value) → List A → List (Option Value) → ℕ → Ordering
order_from see left right k = tuple_order (map see (drop k left)) (map cell_view (drop k right))

-- the order of the cells from here on is that of all
pub record SameSoFar {A : Type 0} (see : A → Option record_tree.Value) (left : List A) (right : List (Option Value)) (k : ℕ) : Type 0 where
  pub within : k ≤ length right
  pub same : order_from see left right k ≡ tuple_order (map see left) (map cell_view right)

order_at : {A : Type 0} (see : A → Option record_tree.Value) (left : List A) (right : List (Option Value)) (k : ℕ) (l : A) (r : Option Value) → k < length left → k < length right → l ≡ get_or left k l → r ≡ get_or right k r
    → order_from see left right k ≡ ordering_then (cell_order (see l) (cell_view r)) (order_from see left right (k + 1))
order_at {A = A} see left right k l r h i e f =
    ap₂ (λ (xs : List A) (ys : List (Option Value)). tuple_order (map see xs) (map cell_view ys))
    (drop_more left k l h ∙ ap (λ (x : A). x ∷ drop (k + 1) left) (sym e))
    (drop_more right k r i ∙ ap (λ (x : Option Value). x ∷ drop (k + 1) right) (sym f))

-- equal cells
pub one_same : {A : Type 0} (see : A → Option record_tree.Value) (left : List A) (right : List (Option Value)) (k : ℕ) (l : A) (r : Option Value) → k < length left → k < length right → l ≡ get_or left k l → r ≡ get_or right k r
    → Equal ≡ cell_order (see l) (cell_view r) → SameSoFar see left right k → SameSoFar see left right (k + 1)
one_same {A = A} see left right k l r h i e f o s = record {
  within = omega (arith, i);
  same = ap (λ x. ordering_then x (order_from see left right (k + 1))) o ∙ sym (order_at see left right k l r h i e f) ∙ s.same;
}

-- cells that differ
pub one_other : {A : Type 0} (see : A → Option record_tree.Value) (left : List A) (right : List (Option Value)) (k : ℕ) (l : A) (r : Option Value) (o : Ordering) → k < length left → k < length right → l ≡ get_or left k l → r ≡ get_or right k r
    → o ≡ cell_order (see l) (cell_view r) → (o ≡ Equal → ⊥) → SameSoFar see left right k → o ≡ tuple_order (map see left) (map cell_view right)
one_other {A = A} see left right k l r o h i e f g n s =
    decided o n (order_from see left right (k + 1)) ∙ ap (λ x. ordering_then x (order_from see left right (k + 1))) g ∙ sym (order_at see left right k l r h i e f) ∙ s.same
  where
    decided : (o : Ordering) → (o ≡ Equal → ⊥) → (p : Ordering) → o ≡ ordering_then o p
    decided Less n p = refl
    decided Equal n p = absurd (n refl)
    decided Greater n p = refl

-- no cell is left on the right
pub right_ends : {A : Type 0} (see : A → Option record_tree.Value) (left : List A) (right : List (Option Value)) (k : ℕ) (d : A) → k < length left → length right ≤ k → SameSoFar see left right k → Greater ≡ tuple_order (map see left) (map cell_view right)
right_ends {A = A} see left right k d h g s =
    sym (ap₂ (λ (xs : List A) (ys : List (Option Value)). tuple_order (map see xs) (map cell_view ys)) (drop_more left k d h) (drop_all k right g))
    ∙ s.same

shorter : (right : List (Option Value)) (k : ℕ) → k ≤ length right → nat_cmp k (length right) ≡ tuple_order [] (map cell_view (drop k right))
shorter right k h = sym (nat_cmp_is k (length right) (tuple_order [] (map cell_view (drop k right))) (by_rest (drop k right) (length-drop k right)))
  where
    by_rest : (xs : List (Option Value)) → length xs ≡ length right - k → MatchOrdering (tuple_order [] (map cell_view xs)) (k < length right) (k ≡ length right) (length right < k)
    by_rest [] e = omega (arith, e, h)
    by_rest (x ∷ xs) e = omega (arith, e, h)

-- no cell is left on the left
pub left_ends : {A : Type 0} (see : A → Option record_tree.Value) (left : List A) (right : List (Option Value)) (k : ℕ) → k ≡ length left → SameSoFar see left right k → nat_cmp (length left) (length right) ≡ tuple_order (map see left) (map cell_view right)
left_ends {A = A} see left right k e s =
    ap (λ n. nat_cmp n (length right)) (sym e) ∙ shorter right k s.within
    ∙ sym (ap (λ (xs : List A). tuple_order (map see xs) (map cell_view (drop k right))) (drop_all k left (omega (arith, e)))) ∙ s.same
