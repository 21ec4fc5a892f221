-- What was read last of each leaf, behind one more move, and where it is lent or kept.
use Rattle.std.proofs.Common.{◌≡◌, ◌<◌, ◌≤◌, ℕ, zero, suc, List, [], ◌∷◌, ◌++◌, length, map, take, drop, Option, None, refl, sym, ap, ◌∙◌, arith}
use Rattle.std.specs.Prelude.{replicate, slice_set, option_map}
use Rattle.dr_meaning.specs.Record.{Value}
use Rattle.dr_meaning.specs.Column.{Triplet}
use Rattle.dr_meaning.specs.Walk.{Move, enter, value, leave}
use Rattle.dr_levels.specs.Views.{lent_value}
use Rattle.dr_levels.specs.declared.triplet.ValueRef.{ValueRef}
use Rattle.dr_moves.specs.Context.{with_value}
use Rattle.dr_scalar.specs.Slots.{slot_value}
use Rattle.dr_within.specs.Rows.{HasRead, IsOfLeaf, value_in}
use Rattle.dr_within.specs.declared.row.Row.{Row}
use Rattle.dr_within.proofs.StepLemmas.{after_snoc}

pub read_more : (n : ℕ) (ms : List Move) (m : Move) (old new : Row) → HasRead n ms old → IsOfLeaf n m → length new.slots.items ≡ length old.slots.items
    → ((i : ℕ) (t : Triplet) → m ≡ value i t → i < length old.slots.items → slot_value new.slots.items ≡ with_value i t.value (slot_value old.slots.items))
    → ((k : ℕ) → m ≡ enter k → new.slots.items ≡ old.slots.items) → ((k : ℕ) → m ≡ leave k → new.slots.items ≡ old.slots.items) → HasRead n (ms ++ m ∷ []) new
read_more n ms (enter k) old new h o l a b c = (l ∙ h.0, after_snoc (λ i. None) ms (enter k) ∙ h.1 ∙ ap slot_value (sym (b k refl)))
read_more n ms (leave k) old new h o l a b c = (l ∙ h.0, after_snoc (λ i. None) ms (leave k) ∙ h.1 ∙ ap slot_value (sym (c k refl)))
read_more n ms (value i t) old new h o l a b c = (l ∙ h.0, after_snoc (λ i. None) ms (value i t) ∙ ap (with_value i t.value) h.1 ∙ sym (a i t refl (omega (arith, h.0, o))))

-- ---- slots, and their values in a list

pub slots_in : (xs : List (Option ValueRef)) → slot_value xs ≡ value_in (map (option_map lent_value) xs)
slots_in xs = λ j k. (at xs k) j
  where
    at : (xs : List (Option ValueRef)) (k : ℕ) → slot_value xs k ≡ value_in (map (option_map lent_value) xs) k
    at [] k = refl
    at (x ∷ xs) zero = refl
    at (x ∷ xs) (suc k) = at xs k

abbrev pub no_value : Option Value
no_value = None

pub none_in : (n : ℕ) → (λ (i : ℕ). no_value) ≡ value_in (replicate n no_value)
none_in n = λ j k. (at n k) j
  where
    at : (n k : ℕ) → no_value ≡ value_in (replicate n no_value) k
    at zero k = refl
    at (suc n) zero = refl
    at (suc n) (suc k) = at n k

pub one_none : (n : ℕ) → replicate n no_value ++ no_value ∷ [] ≡ replicate (suc n) no_value
one_none zero = refl
one_none (suc n) = ap (λ (xs : List (Option Value)). no_value ∷ xs) (one_none n)

-- ---- one after another is put in its place

pub set_next : {A : Type 0} (xs ys : List A) (k : ℕ) (v : A) → length ys ≡ length xs → k < length xs → slice_set (take k xs ++ drop k ys) k v ≡ take k xs ++ v ∷ drop (suc k) ys
set_next [] ys k v e l = absurd (omega (arith, l))
set_next (x ∷ xs) [] k v e l = absurd (never (omega (arith, e)))
  where
    never : 1 ≤ 0 → ⊥
    never q = omega (arith, q)
set_next (x ∷ xs) (y ∷ ys) zero v e l = refl
set_next {A} (x ∷ xs) (y ∷ ys) (suc k) v e l = ap (λ (zs : List A). x ∷ zs) (set_next xs ys k v (omega (arith, e)) (omega (arith, l)))
