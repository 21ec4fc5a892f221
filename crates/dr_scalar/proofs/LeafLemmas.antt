-- A leaf that was read has the leaf's value; over slots that are the values of the leaves in a row, each was read.
use Rattle.std.proofs.Common.{◌≡◌, ℕ, zero, suc, List, [], ◌∷◌, map, Bool, true, false, cond, ◌&&◌, Option, Some, None, option_map, refl, sym, ap, subst, ◌∙◌}
use Rattle.std.specs.List.{list_all, slice_get, slice_index_or}
use Rattle.dr_meaning.specs.Path.{Leaf}
use Rattle.dr_meaning.specs.Record.{Value, Node}
use Rattle.dr_meaning.specs.Rows.{value_at}
use Rattle.dr_meaning.specs.Expression.{evaluate}
use Rattle.dr_meaning.specs.BoundExpression.{ValueType, truth_type, number_type, text_type, kind_type, same_type}
use Rattle.dr_meaning.specs.BindingLaws.{is_of_type}
use Rattle.dr_levels.specs.Views.{lent_value}
use Rattle.dr_levels.specs.declared.triplet.ValueRef.{ValueRef}
use Rattle.dr_plan.specs.Views.{leaf_value, path_of}
use Rattle.dr_plan.specs.Fitting.{leaf_has_type}
use Rattle.dr_scalar.specs.LeafLaws.{AreRead, are_typed}
use Rattle.dr_scalar.specs.Slots.{AreValues, slot_value, of_type}

-- ---- slots

slot_of : (slots : List (Option ValueRef)) (i : ℕ) → slot_value slots i ≡ slice_index_or (map (option_map lent_value) slots) i None
slot_of [] i = refl
slot_of (s ∷ ss) zero = refl
slot_of (s ∷ ss) (suc i) = slot_of ss i

value_of_leaf : (row : Node) (ls : List Leaf) (i : ℕ) → slice_index_or (map (λ (l : Leaf). value_at l.path row) ls) i None ≡ value_at (path_of (slice_get ls i)) row
value_of_leaf row [] i = refl
value_of_leaf row (l ∷ ls) zero = refl
value_of_leaf row (l ∷ ls) (suc i) = value_of_leaf row ls i

pub slots_are_read : (ls : List Leaf) (slots : List (Option ValueRef)) (row : Node) → AreValues ls slots row → (ks : List ℕ) → AreRead ls ks (slot_value slots) row
slots_are_read ls slots row v [] = tt
slots_are_read ls slots row v (k ∷ ks) = (slot_of slots k ∙ (ap (λ vs. slice_index_or vs k None) v.values ∙ value_of_leaf row ls k), slots_are_read ls slots row v ks)

-- ---- a leaf

pub first_holds : (a b : Bool) → (a && b) ≡ true → a ≡ true
first_holds true b h = refl
first_holds false b h = h

pub second_holds : (a b : Bool) → (a && b) ≡ true → b ≡ true
second_holds true b h = h
second_holds false b h = cc

pub holds_of_leaf : (test : Leaf → Bool) (ls : List Leaf) (i : ℕ) (l : Leaf) → list_all test ls ≡ true → slice_get ls i ≡ Some l → test l ≡ true
holds_of_leaf test [] i l h e = cc
holds_of_leaf test (k ∷ ls) zero l h e = let g : test k ≡ true = first_holds (test k) (list_all test ls) h in let q : k ≡ l = cc in subst (λ (m : Leaf). test m ≡ true) q g
holds_of_leaf test (k ∷ ls) (suc i) l h e = holds_of_leaf test ls i l (second_holds (test k) (list_all test ls) h) e

same_types : (s t : ValueType) → same_type s t ≡ true → s ≡ t
same_types truth_type truth_type h = refl
same_types truth_type number_type h = cc
same_types truth_type text_type h = cc
same_types number_type truth_type h = cc
same_types number_type number_type h = refl
same_types number_type text_type h = cc
same_types text_type truth_type h = cc
same_types text_type number_type h = cc
same_types text_type text_type h = refl

kept_of_type : (t : ValueType) (v : Option Value) → is_of_type t v ≡ true → of_type t v ≡ v
kept_of_type t v h = ap (λ b. cond b v None) h

pub leaf_means : (ls : List Leaf) (read : ℕ → Option Value) (row : Node) → are_typed ls row ≡ true → (t : ValueType) (i : ℕ) → leaf_has_type t (slice_get ls i) ≡ true
    → AreRead ls (i ∷ []) read row → of_type t (read i) ≡ evaluate (leaf_value ls i) row
leaf_means ls read row v t i h r = by (slice_get ls i) refl h
  where
    value : Leaf → Option Value
    value l = value_at l.path row

    by : (o : Option Leaf) → slice_get ls i ≡ o → leaf_has_type t o ≡ true → of_type t (read i) ≡ evaluate (leaf_value ls i) row
    by None e g = cc
    by (Some l) e g =
        let same : read i ≡ value l = r.0 ∙ ap (λ o. value_at (path_of o) row) e in
        let typed : is_of_type t (value l) ≡ true =
        subst (λ s. is_of_type s (value l) ≡ true) (same_types (kind_type l.kind) t g) (holds_of_leaf (λ (k : Leaf). is_of_type (kind_type k.kind) (value k)) ls i l v e) in
        ap (of_type t) same ∙ (kept_of_type t (value l) typed ∙ ap (λ o. value_at (path_of o) row) (sym e))
