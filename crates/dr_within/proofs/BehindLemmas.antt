-- A scan of groups behind one more move.
use Rattle.std.proofs.Common.{◌≡◌, ◌-◌, ◌<◌, ℕ, zero, suc, List, [], ◌∷◌, ◌++◌, length, take, drop, replicate, Bool, true, false, Option, None, refl, sym, ap, ap₂, ◌∙◌, true≢false, eq-eqb, append-nil, arith}
use Rattle.dr_memory.specs.declared.NoMemory.{NoMemory}
use Rattle.std.specs.Prelude.{◌==◌, Result, Ok, Err, IfOk, if◌then◌else◌, option_map, slice_set}
use Rattle.std.proofs.lemmas.Bool.{eqb-true}
use Rattle.dr_meaning.specs.Column.{Triplet}
use Rattle.dr_meaning.specs.Walk.{value}
use Rattle.dr_levels.specs.Views.{lent_value, move_view, triplet_view}
use Rattle.dr_levels.specs.declared.moves.Move.{Move as CodeMove}
use Rattle.dr_levels.specs.declared.triplet.Triplet.{Triplet as CodeTriplet}
use Rattle.dr_levels.specs.declared.triplet.ValueRef.{ValueRef}
use Rattle.dr_moves.specs.Context.{Context, with_value}
use Rattle.dr_kept_laws.specs.GroupFlow.{left_with}
use Rattle.dr_partials.specs.Putting.{Put}
use Rattle.dr_kept_laws.specs.Telling.{nothing_read}
use Rattle.dr_scalar.specs.Slots.{slot_value}
use Rattle.dr_within.specs.Framing.{AreMarks}

-- ---- what was read

read_past : (xs : List (Option ValueRef)) (i k : ℕ) (v : Option ValueRef) → (i ≡ k → ⊥) → slot_value (slice_set xs i v) k ≡ slot_value xs k
read_past [] i k v d = refl
read_past (x ∷ xs) zero zero v d = absurd (d refl)
read_past (x ∷ xs) zero (suc k) v d = refl
read_past (x ∷ xs) (suc i) zero v d = refl
read_past (x ∷ xs) (suc i) (suc k) v d = read_past xs i k v (λ e. d (ap suc e))

read_there : (xs : List (Option ValueRef)) (i : ℕ) (v : Option ValueRef) → i < length xs → slot_value (slice_set xs i v) i ≡ option_map lent_value v
read_there [] i v l = absurd (omega (arith, l))
read_there (x ∷ xs) zero v l = refl
read_there (x ∷ xs) (suc i) v l = read_there xs i v (omega (arith, l))

pub one_read : (xs : List (Option ValueRef)) (i : ℕ) (v : Option ValueRef) → i < length xs → slot_value (slice_set xs i v) ≡ with_value i (option_map lent_value v) (slot_value xs)
one_read xs i v l = λ j k. (at k) j
  where
    by_same : (k : ℕ) (b : Bool) → (i == k) ≡ b → slot_value (slice_set xs i v) k ≡ (if b then option_map lent_value v else slot_value xs k)
    by_same k true e = let q : i ≡ k = eqb-true i k e in ap (slot_value (slice_set xs i v)) (sym q) ∙ read_there xs i v l
    by_same k false e = read_past xs i k v (λ q. true≢false (sym (eq-eqb i k q) ∙ e))

    at : (k : ℕ) → slot_value (slice_set xs i v) k ≡ with_value i (option_map lent_value v) (slot_value xs) k
    at k = by_same k (i == k) refl

pub nothing_in : (n : ℕ) → nothing_read.context ≡ slot_value (replicate n None)
nothing_in n = λ j k. (at n k) j
  where
    at : (n k : ℕ) → nothing_read.context k ≡ slot_value (replicate n None) k
    at zero k = refl
    at (suc n) zero = refl
    at (suc n) (suc k) = at n k

-- ---- open branches

-- as many are open as there are marks
pub no_marks : (n : ℕ) (bs : List Bool) (ms : List ℕ) → AreMarks n bs [] ms → bs ≡ []
no_marks n [] ms h = refl
no_marks n (b ∷ bs) ms h = absurd h

pub some_marks : (n : ℕ) (bs : List Bool) (g : ℕ) (gs ms : List ℕ) → AreMarks n bs (g ∷ gs) ms → (b : Bool) × (cs : List Bool) × (bs ≡ b ∷ cs)
some_marks n [] g gs ms h = absurd h
some_marks n (b ∷ bs) g gs ms h = (b, bs, refl)

-- ---- what is made as a branch is left

take_drop : (n : ℕ) (xs : List Put) → take n xs ++ drop n xs ≡ xs
take_drop zero xs = refl
take_drop (suc n) [] = refl
take_drop (suc n) (x ∷ xs) = ap (λ (ys : List Put). x ∷ ys) (take_drop n xs)

appended : (xs ys zs : List Put) → xs ++ (ys ++ zs) ≡ (xs ++ ys) ++ zs
appended [] ys zs = refl
appended (x ∷ xs) ys zs = ap (λ (us : List Put). x ∷ us) (appended xs ys zs)

pub left_made : (more : Context → List Put) (c : Context) (k m : ℕ) (made rows : List Put) → rows ≡ (if k == 0 then more c else []) → take m made ++ left_with more k c (drop m made) ≡ made ++ rows
left_made more c k m made rows e = by_record (k == 0) e
  where
    by_record : (b : Bool) → rows ≡ (if b then more c else []) → take m made ++ (if b then drop m made ++ more c else drop m made) ≡ made ++ rows
    by_record true e = appended (take m made) (drop m made) (more c) ∙ ap₂ (λ (xs ys : List Put). xs ++ ys) (take_drop m made) (sym e)
    by_record false e = take_drop m made ∙ sym (append-nil made) ∙ ap (λ (ys : List Put). made ++ ys) (sym e)

-- ---- what a call answers

pub if_ok : {A : Type 0} (r : Result A NoMemory) (P Q : A → Type 0) → ((x : A) → Q x → P x) → IfOk r Q → IfOk r P
if_ok (Ok a) P Q f h = f a h
if_ok (Err e) P Q f h = tt

-- ---- vectors

no_cells : {A : Type 0} (k : ℕ) (xs : List A) → xs ≡ [] → take k xs ≡ []
no_cells zero xs e = refl
no_cells (suc k) xs e = ap (take (suc k)) e

pub fresh : {A : Type 0} (v : A) (xs : List A) (k m : ℕ) → xs ≡ [] → m ≡ 0 → take k xs ++ replicate (k - m) v ≡ replicate k v
fresh {A} v xs k m e z = let q : k - m ≡ k = omega (arith, z) in ap₂ (λ (ys : List A) (j : ℕ). ys ++ replicate j v) (no_cells k xs e) q

pub length_of_same : {A : Type 0} (v : A) (k : ℕ) → length (replicate k v) ≡ k
length_of_same v zero = refl
length_of_same v (suc k) = ap suc (length_of_same v k)

-- ---- a leaf's move

pub leaf_is : (m : CodeMove) (leaf : ℕ) (x : CodeTriplet) (i : ℕ) (t : Triplet) → m ≡ CodeMove.Leaf leaf x → move_view m ≡ value i t → (leaf ≡ i) × (option_map lent_value x.value ≡ t.value)
leaf_is m leaf x i t e q =
    let same : value leaf (triplet_view x) ≡ value i t = sym (ap move_view e) ∙ q in
    let y = parts leaf i (triplet_view x) t same in
    (y.0, ap (λ (z : Triplet). z.value) y.1)
  where
    parts : (a b : ℕ) (u v : Triplet) → value a u ≡ value b v → (a ≡ b) × (u ≡ v)
    parts a b u v e = (cc, cc)
