-- Two lists of cells are the same where the rest of them is.
use Rattle.std.specs.Prelude.{◌≡◌, ◌<◌, ◌≤◌, ℕ, ◌+◌, List, ◌∷◌, map, length, get_or, drop, Option}
use Rattle.std.proofs.Common.{sym, ap, ap₂, ◌∙◌, arith}
use Rattle.std.proofs.lemmas.List.{drop_more, drop_all}
use Rattle.dr_meaning.specs.Record as record_tree
use Rattle.dr_nested.specs.declared.record.Value.{Value}
use Rattle.dr_group.specs.Views.{cell_view}

-- the cells from here on are the same exactly where all are
pub record SameRest {A : Type 0} (see : A → Option record_tree.Value) (left : List A) (right : List (Option Value)) (k : ℕ) : Type 0 where
  pub within : k ≤ length left
  pub yes : map see (drop k left) ≡ map cell_view (drop k right) → map see left ≡ map cell_view right
  pub no : map see left ≡ map cell_view right → map see (drop k left) ≡ map cell_view (drop k right)

left_at : {A : Type 0} (see : A → Option record_tree.Value) (left : List A) (k : ℕ) (l : A) → k < length left → l ≡ get_or left k l → map see (drop k left) ≡ see l ∷ map see (drop (k + 1) left)
left_at {A = A} see left k l h e = ap (λ (xs : List A). map see xs) (drop_more left k l h ∙ ap (λ (x : A). x ∷ drop (k + 1) left) (sym e))

cells_of : (x y : Option record_tree.Value) (xs ys : List (Option record_tree.Value)) → x ∷ xs ≡ y ∷ ys → x ≡ y
cells_of x y xs ys h = cc

rests_of : (x y : Option record_tree.Value) (xs ys : List (Option record_tree.Value)) → x ∷ xs ≡ y ∷ ys → xs ≡ ys
rests_of x y xs ys h = cc

-- one cell more that is the same
pub one_same : {A : Type 0} (see : A → Option record_tree.Value) (left : List A) (right : List (Option Value)) (k : ℕ) (l : A) (r : Option Value) → k < length left → k < length right → l ≡ get_or left k l → r ≡ get_or right k r
    → see l ≡ cell_view r → SameRest see left right k → SameRest see left right (k + 1)
one_same {A = A} see left right k l r h i e f o s = record {
  within = omega (arith, h);
  yes = λ q. s.yes (left_at see left k l h e ∙ (ap₂ (λ x xs. x ∷ xs) o q ∙ sym (left_at cell_view right k r i f)));
  no = λ q. rests_of (see l) (cell_view r) (map see (drop (k + 1) left)) (map cell_view (drop (k + 1) right)) (sym (left_at see left k l h e) ∙ (s.no q ∙ left_at cell_view right k r i f));
}

-- cells that differ
pub one_other : {A : Type 0} (see : A → Option record_tree.Value) (left : List A) (right : List (Option Value)) (k : ℕ) (l : A) (r : Option Value) → k < length left → k < length right → l ≡ get_or left k l → r ≡ get_or right k r
    → (see l ≡ cell_view r → ⊥) → SameRest see left right k → map see left ≡ map cell_view right → ⊥
one_other {A = A} see left right k l r h i e f n s q =
    n (cells_of (see l) (cell_view r) (map see (drop (k + 1) left)) (map cell_view (drop (k + 1) right)) (sym (left_at see left k l h e) ∙ (s.no q ∙ left_at cell_view right k r i f)))

-- no cell is left
pub rest_ends : {A : Type 0} (see : A → Option record_tree.Value) (left : List A) (right : List (Option Value)) (k : ℕ) → length left ≤ k → length right ≤ k → SameRest see left right k → map see left ≡ map cell_view right
rest_ends {A = A} see left right k h i s = s.yes (ap (λ (xs : List A). map see xs) (drop_all k left h) ∙ sym (ap (λ (xs : List (Option Value)). map cell_view xs) (drop_all k right i)))
