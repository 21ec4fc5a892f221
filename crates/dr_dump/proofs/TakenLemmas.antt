-- The columns of a slice, one leaf more at a time.
use Rattle.std.proofs.Common.{◌≡◌, ◌<◌, ℕ, zero, suc, ◌+◌, List, [], ◌∷◌, ◌++◌, length, get_or, Option, Some, refl, sym, ap, ◌∙◌, subst, ◌⊎◌, inl, inr, length-append, arith}
use Rattle.std.specs.Prelude.{slice_set}
use Rattle.std.specs.List.{slice_get}
use Rattle.std.proofs.lemmas.Option.{slice_get_within}
use Rattle.dr_meaning.specs.Path.{Leaf}
use Rattle.dr_meaning.specs.Record.{Node}
use Rattle.dr_meaning.specs.Column.{Triplet, column}
use Rattle.dr_outside.specs.Link.{Files}
use Rattle.dr_file.specs.declared.opened.Opened.{Opened}
use Rattle.dr_dump.specs.Leaves.{rest_of, IsLeafRecords, IsTaken}
use Rattle.dr_dump.specs.Slices.{AreBehind, AreTaken}
use Rattle.dr_dump.specs.declared.leaf_records.LeafRecords.{LeafRecords}
use Rattle.dr_scan.proofs.ColumnsLemmas.{leaf_there}
use Rattle.dr_dump.proofs.SliceLemmas.{there, same_item}

-- ---- another leaf in the place of one

set_at : (xs : List LeafRecords) (n : ℕ) (y : LeafRecords) → n < length xs → slice_get (slice_set xs n y) n ≡ Some y
set_at [] n y h = absurd (omega (arith, h))
set_at (x ∷ xs) zero y h = refl
set_at (x ∷ xs) (suc n) y h = set_at xs n y (omega (arith, h))

set_beside : (xs : List LeafRecords) (n i : ℕ) (y : LeafRecords) → (i ≡ n → ⊥) → slice_get (slice_set xs n y) i ≡ slice_get xs i
set_beside [] n i y h = refl
set_beside (x ∷ xs) zero zero y h = absurd (h refl)
set_beside (x ∷ xs) zero (suc i) y h = refl
set_beside (x ∷ xs) (suc n) zero y h = refl
set_beside (x ∷ xs) (suc n) (suc i) y h = set_beside xs n i y (λ e. h (ap suc e))

set_length : (xs : List LeafRecords) (n : ℕ) (y : LeafRecords) → length (slice_set xs n y) ≡ length xs
set_length [] n y = refl
set_length (x ∷ xs) zero y = refl
set_length (x ∷ xs) (suc n) y = ap suc (set_length xs n y)

-- ---- one column more

column_first : (C : List (List Triplet)) (ts : List Triplet) (i : ℕ) → i < length C → get_or (C ++ ts ∷ []) i [] ≡ get_or C i []
column_first [] ts i h = absurd (omega (arith, h))
column_first (c ∷ C) ts zero h = refl
column_first (c ∷ C) ts (suc i) h = column_first C ts i (omega (arith, h))

column_last : (C : List (List Triplet)) (ts : List Triplet) → get_or (C ++ ts ∷ []) (length C) [] ≡ ts
column_last [] ts = refl
column_last (c ∷ C) ts = column_last C ts

last_or_before : (i n : ℕ) → i < n + 1 → (i ≡ n) ⊎ (i < n)
last_or_before zero zero h = inl refl
last_or_before zero (suc n) h = inr (omega arith)
last_or_before (suc i) zero h = absurd (omega (arith, h))
last_or_before (suc i) (suc n) h = later (last_or_before i n (omega (arith, h)))
  where
    later : (i ≡ n) ⊎ (i < n) → (suc i ≡ suc n) ⊎ (suc i < suc n)
    later (inl e) = inl (ap suc e)
    later (inr l) = inr (omega (arith, l))

same_leaf : (l m : Leaf) → Some l ≡ Some m → l ≡ m
same_leaf l m e = cc

-- ---- one leaf more

-- the leaf whose turn it is stands as it did
pub record NextLeaf (held : Option Files) (o : Opened) (F : List Leaf) (R : List Node) (n : ℕ) (xs ys : List LeafRecords) : Type 0 where
  pub leaf : Leaf
  pub at : slice_get F n ≡ Some leaf
  pub stands : LeafRecords
  pub was : slice_get xs n ≡ Some stands
  pub is : slice_get ys n ≡ Some stands
  pub of : IsLeafRecords held o F leaf (column leaf.path R ++ rest_of stands) stands

pub next_leaf : (held now : Option Files) (o : Opened) (F : List Leaf) (R : List Node) (k n : ℕ) (xs ys : List LeafRecords) (C : List (List Triplet)) → now ≡ held → AreBehind held o F R xs → AreTaken held o F R k n xs ys C → n < length xs → NextLeaf now o F R n xs ys
next_leaf held now o F R k n xs ys C same h t w =
    let m = h.as_many in
    let l = leaf_there F n (omega (arith, w, m)) in
    let x = there xs n w in
    let b = h.each n l.0 x.0 l.1 x.1 in
    record { leaf = l.0; at = l.1; stands = x.0; was = x.1; is = t.others n (omega arith) ∙ x.1; of = subst (λ (z : Option Files). IsLeafRecords z o F l.0 (column l.0.path R ++ rest_of x.0) x.0) (sym same) b.of }

pub none_taken : (held : Option Files) (o : Opened) (F : List Leaf) (R : List Node) (k : ℕ) (xs : List LeafRecords) (C : List (List Triplet)) → C ≡ [] → AreTaken held o F R k 0 xs xs C
none_taken held o F R k xs C e = record { as_many = refl; so_many = ap length e; each = λ i l x y h a b d. absurd (omega (arith, h)); others = λ i h. refl }

pub one_taken : (held : Option Files) (o : Opened) (F : List Leaf) (l : Leaf) (R : List Node) (k n : ℕ) (x y : LeafRecords) (xs ys zs : List LeafRecords) (C D : List (List Triplet)) (ts : List Triplet) → AreTaken held o F R k n xs ys C → slice_get F n ≡ Some l
    → slice_get xs n ≡ Some x → zs ≡ slice_set ys n y → IsTaken held o F l (column l.path R) k x y ts → D ≡ C ++ ts ∷ [] → AreTaken held o F R k (n + 1) xs zs D
one_taken held o F l R k n x y xs ys zs C D ts t at is set h more = record {
  as_many = ap length set ∙ (set_length ys n y ∙ t.as_many);
  so_many = let s = t.so_many in omega (arith, ap length more, length-append C (ts ∷ []), s);
  each = λ i m a b w p q r. by i m a b (last_or_before i n w) p q r;
  others = λ i w. ap (λ (us : List LeafRecords). slice_get us i) set ∙ (set_beside ys n i y (λ e. omega (arith, e, w)) ∙ t.others i (omega (arith, w)));
}
  where
    by : (i : ℕ) (m : Leaf) (a b : LeafRecords) → (i ≡ n) ⊎ (i < n) → slice_get F i ≡ Some m → slice_get xs i ≡ Some a → slice_get zs i ≡ Some b → IsTaken held o F m (column m.path R) k a b (get_or D i [])
    by i m a b (inl e) p q r =
        let s = t.so_many in
        let w = slice_get_within xs n x is in
        let g = t.as_many in
        let leaf : l ≡ m = same_leaf l m (sym at ∙ (ap (slice_get F) (sym e) ∙ p)) in
        let first : x ≡ a = same_item x a (sym is ∙ (ap (slice_get xs) (sym e) ∙ q)) in
        let next : y ≡ b = same_item y b (sym (set_at ys n y (omega (arith, w, g))) ∙ (ap (λ (us : List LeafRecords). slice_get us n) (sym set) ∙ (ap (slice_get zs) (sym e) ∙ r))) in
        let own : ts ≡ get_or D i [] = sym (column_last C ts) ∙ (ap (λ (j : ℕ). get_or (C ++ ts ∷ []) j []) (s ∙ sym e) ∙ ap (λ (us : List (List Triplet)). get_or us i []) (sym more)) in
        subst (λ (us : List Triplet). IsTaken held o F m (column m.path R) k a b us) own
        (subst (λ (z : LeafRecords). IsTaken held o F m (column m.path R) k a z ts) next
        (subst (λ (z : LeafRecords). IsTaken held o F m (column m.path R) k z y ts) first
        (subst (λ (z : Leaf). IsTaken held o F z (column z.path R) k x y ts) leaf h)))
    by i m a b (inr w) p q r =
        let s = t.so_many in
        let was : slice_get ys i ≡ Some b = sym (set_beside ys n i y (λ e. omega (arith, e, w))) ∙ (ap (λ (us : List LeafRecords). slice_get us i) (sym set) ∙ r) in
        let own : get_or C i [] ≡ get_or D i [] = sym (column_first C ts i (omega (arith, w, s))) ∙ ap (λ (us : List (List Triplet)). get_or us i []) (sym more) in
        subst (λ (us : List Triplet). IsTaken held o F m (column m.path R) k a b us) own (t.each i m a b w p q was)
