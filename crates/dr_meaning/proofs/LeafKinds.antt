-- The kind of the leaf to which a path leads, and that each leaf of a schema has it.
use Rattle.std.proofs.Common.{◌≡◌, ℕ, zero, suc, ◌+◌, List, [], ◌∷◌, ◌++◌, map, Bool, true, false, Option, Some, None, refl, sym, ap, ◌∙◌, subst, arith}
use Rattle.std.specs.List.{slice_get}
use Rattle.dr_meaning.specs.Schema.{Repetition, required, optional, repeated, Kind, Fields, no_fields, field, Shape, leaf, group}
use Rattle.dr_meaning.specs.Path.{Step, Leaf, leaf_below, leaves_from, shape_leaves, leaves, same_repetition}
use Rattle.dr_meaning.proofs.ProjectionLemmas.{step}

abbrev pub through_kind : ℕ → Option Kind → (ℕ → Option Kind) → Option Kind
through_kind zero first later = first
through_kind (suc i) first later = later i

abbrev pub kind_if : Bool → Option Kind → Option Kind
kind_if true k = k
kind_if false k = None

abbrev mutual
  pub leaf_kind : Fields → List Step → Option Kind
  leaf_kind no_fields p = None
  leaf_kind (field n r s fs) [] = None
  leaf_kind (field n r s fs) (t ∷ p) = through_kind t.place (kind_if (same_repetition t.repetition r) (shape_kind s p)) (λ i. leaf_kind fs (step i t.repetition ∷ p))

  pub shape_kind : Shape → List Step → Option Kind
  shape_kind (leaf k) [] = Some k
  shape_kind (leaf k) (t ∷ p) = None
  shape_kind (group fs) p = leaf_kind fs p

pub kind_if_some : (b : Bool) (o : Option Kind) (k : Kind) → kind_if b o ≡ Some k → (b ≡ true) × (o ≡ Some k)
kind_if_some true o k h = (refl, h)
kind_if_some false o k h = absurd (cc)

-- ---- the leaves of a schema

abbrev EachLeaf : (Leaf → Type 0) → List Leaf → Type 0
EachLeaf P [] = Unit {0}
EachLeaf P (l ∷ ls) = P l × EachLeaf P ls

each_append : (P : Leaf → Type 0) (xs ys : List Leaf) → EachLeaf P xs → EachLeaf P ys → EachLeaf P (xs ++ ys)
each_append P [] ys h k = k
each_append P (x ∷ xs) ys h k = (h.0, each_append P xs ys h.1 k)

each_leaf_weaker : (P Q : Leaf → Type 0) → ((l : Leaf) → P l → Q l) → (ls : List Leaf) → EachLeaf P ls → EachLeaf Q ls
each_leaf_weaker P Q f [] h = tt
each_leaf_weaker P Q f (l ∷ ls) h = (f l h.0, each_leaf_weaker P Q f ls h.1)

each_below : (P Q : Leaf → Type 0) (n : List ℕ) (s : Step) → ((l : Leaf) → P l → Q (leaf_below n s l)) → (ls : List Leaf) → EachLeaf P ls → EachLeaf Q (map (leaf_below n s) ls)
each_below P Q n s f [] h = tt
each_below P Q n s f (l ∷ ls) h = (f l h.0, each_below P Q n s f ls h.1)

each_get : (P : Leaf → Type 0) (ls : List Leaf) (i : ℕ) (l : Leaf) → EachLeaf P ls → slice_get ls i ≡ Some l → P l
each_get P [] i l h e = absurd (cc)
each_get P (m ∷ ls) zero l h e = let q : m ≡ l = cc in subst P q h.0
each_get P (m ∷ ls) (suc i) l h e = each_get P ls i l h.1 e

-- a leaf of a group whose first field has the place i
abbrev KindFrom : ℕ → Fields → Leaf → Type 0
KindFrom i fs l = (j : ℕ) × (r : Repetition) × (q : List Step) × (l.path ≡ step (i + j) r ∷ q) × (leaf_kind fs (step j r ∷ q) ≡ Some l.kind)

same_itself : (r : Repetition) → same_repetition r r ≡ true
same_itself required = refl
same_itself optional = refl
same_itself repeated = refl

first_kind : (n : List ℕ) (i : ℕ) (r : Repetition) (s : Shape) (fs : Fields) (l : Leaf) → shape_kind s l.path ≡ Some l.kind → KindFrom i (field n r s fs) (leaf_below n (step i r) l)
first_kind n i r s fs l h =
    let e : i ≡ i + 0 = omega arith in
    (0, r, l.path, ap (λ (j : ℕ). step j r ∷ l.path) e, ap (λ b. kind_if b (shape_kind s l.path)) (same_itself r) ∙ h)

later_kind : (n : List ℕ) (i : ℕ) (r : Repetition) (s : Shape) (fs : Fields) (l : Leaf) → KindFrom (suc i) fs l → KindFrom i (field n r s fs) l
later_kind n i r s fs l h =
    let e : suc i + h.0 ≡ i + suc h.0 = omega arith in
    (suc h.0, h.1, h.2, h.3 ∙ ap (λ (j : ℕ). step j h.1 ∷ h.2) e, h.4)

pub no_shift : (j : ℕ) → 0 + j ≡ j
no_shift j = omega arith

kind_at_first : (fs : Fields) (l : Leaf) → KindFrom 0 fs l → leaf_kind fs l.path ≡ Some l.kind
kind_at_first fs l h = subst (λ (p : List Step). leaf_kind fs p ≡ Some l.kind) (sym (h.3 ∙ ap (λ (j : ℕ). step j h.1 ∷ h.2) (no_shift h.0))) h.4

mutual
  fields_kinds : (fs : Fields) (i : ℕ) → EachLeaf (KindFrom i fs) (leaves_from fs i)
  fields_kinds no_fields i = tt
  fields_kinds (field n r s fs) i =
      each_append (KindFrom i (field n r s fs)) (map (leaf_below n (step i r)) (shape_leaves s)) (leaves_from fs (suc i))
      (each_below (λ l. shape_kind s l.path ≡ Some l.kind) (KindFrom i (field n r s fs)) n (step i r) (first_kind n i r s fs) (shape_leaves s) (shape_kinds s))
      (each_leaf_weaker (KindFrom (suc i) fs) (KindFrom i (field n r s fs)) (later_kind n i r s fs) (leaves_from fs (suc i)) (fields_kinds fs (suc i)))

  shape_kinds : (s : Shape) → EachLeaf (λ l. shape_kind s l.path ≡ Some l.kind) (shape_leaves s)
  shape_kinds (leaf k) = (refl, tt)
  shape_kinds (group fs) = each_leaf_weaker (KindFrom 0 fs) (λ l. leaf_kind fs l.path ≡ Some l.kind) (kind_at_first fs) (leaves_from fs 0) (fields_kinds fs 0)

-- a leaf of a schema is of the kind to which its path leads
pub kind_of_leaf : (fs : Fields) (i : ℕ) (l : Leaf) → slice_get (leaves fs) i ≡ Some l → leaf_kind fs l.path ≡ Some l.kind
kind_of_leaf fs i l h = each_get (λ (m : Leaf). leaf_kind fs m.path ≡ Some m.kind) (leaves fs) i l (shape_kinds (group fs)) h
