-- The leaves of a schema are leaves of it, of their kinds.
use Rattle.std.proofs.Common.{◌≡◌, ℕ, suc, ◌+◌, List, [], ◌∷◌, ◌++◌, map, Bool, true, ◌&&◌, refl, sym, ap, ap₂, ◌∙◌, subst, arith}
use Rattle.std.specs.List.{list_all}
use Rattle.std.proofs.lemmas.Bool.{and_from}
use Rattle.dr_meaning.specs.Schema.{Repetition, Fields, no_fields, field, Shape, leaf, group}
use Rattle.dr_meaning.specs.Path.{Step, Leaf, leaf_below, leaves_from, shape_leaves, leaves}
use Rattle.dr_meaning.proofs.ProjectionLemmas.{step}
use Rattle.dr_striper.specs.Leaves.{is_leaf_of, is_shape_leaf, is_leaf, OfSomeSchema}
use Rattle.dr_striper.proofs.FoundLemmas.{same_repetition-itself, same_kind-itself}

abbrev Each : (Leaf → Type 0) → List Leaf → Type 0
Each P [] = Unit {0}
Each P (l ∷ ls) = P l × Each P ls

each_append : (P : Leaf → Type 0) (xs ys : List Leaf) → Each P xs → Each P ys → Each P (xs ++ ys)
each_append P [] ys h k = k
each_append P (x ∷ xs) ys h k = (h.0, each_append P xs ys h.1 k)

each_weaker : (P Q : Leaf → Type 0) → ((l : Leaf) → P l → Q l) → (ls : List Leaf) → Each P ls → Each Q ls
each_weaker P Q f [] h = tt
each_weaker P Q f (l ∷ ls) h = (f l h.0, each_weaker P Q f ls h.1)

each_below : (P Q : Leaf → Type 0) (n : List ℕ) (s : Step) → ((l : Leaf) → P l → Q (leaf_below n s l)) → (ls : List Leaf) → Each P ls → Each Q (map (leaf_below n s) ls)
each_below P Q n s f [] h = tt
each_below P Q n s f (l ∷ ls) h = (f l h.0, each_below P Q n s f ls h.1)

each_passes : (p : Leaf → Bool) (ls : List Leaf) → Each (λ l. p l ≡ true) ls → list_all p ls ≡ true
each_passes p [] h = refl
each_passes p (l ∷ ls) h = ap₂ (λ a b. a && b) h.0 (each_passes p ls h.1)

-- a leaf of a group whose first field has the place i
abbrev LeafFrom : ℕ → Fields → Leaf → Type 0
LeafFrom i fs l = (j : ℕ) × (r : Repetition) × (q : List Step) × (l.path ≡ step (i + j) r ∷ q) × (is_leaf_of fs l.kind (step j r ∷ q) ≡ true)

no_shift : (j : ℕ) → 0 + j ≡ j
no_shift j = omega arith

leaf_at_first : (fs : Fields) (l : Leaf) → LeafFrom 0 fs l → is_leaf fs l ≡ true
leaf_at_first fs l h = subst (λ (p : List Step). is_leaf_of fs l.kind p ≡ true) (sym (h.3 ∙ ap (λ (j : ℕ). step j h.1 ∷ h.2) (no_shift h.0))) h.4

first_leaf : (n : List ℕ) (i : ℕ) (r : Repetition) (s : Shape) (fs : Fields) (l : Leaf) → is_shape_leaf s l.kind l.path ≡ true → LeafFrom i (field n r s fs) (leaf_below n (step i r) l)
first_leaf n i r s fs l h =
    let e : i ≡ i + 0 = omega arith in
    (0, r, l.path, ap (λ (j : ℕ). step j r ∷ l.path) e, and_from _ _ (same_repetition-itself r) h)

later_leaf : (n : List ℕ) (i : ℕ) (r : Repetition) (s : Shape) (fs : Fields) (l : Leaf) → LeafFrom (suc i) fs l → LeafFrom i (field n r s fs) l
later_leaf n i r s fs l h =
    let e : suc i + h.0 ≡ i + suc h.0 = omega arith in
    (suc h.0, h.1, h.2, h.3 ∙ ap (λ (j : ℕ). step j h.1 ∷ h.2) e, h.4)

mutual
  fields_kinds : (fs : Fields) (i : ℕ) → Each (LeafFrom i fs) (leaves_from fs i)
  fields_kinds no_fields i = tt
  fields_kinds (field n r s fs) i =
      each_append (LeafFrom i (field n r s fs)) (map (leaf_below n (step i r)) (shape_leaves s)) (leaves_from fs (suc i))
      (each_below (λ l. is_shape_leaf s l.kind l.path ≡ true) (LeafFrom i (field n r s fs)) n (step i r) (first_leaf n i r s fs) (shape_leaves s) (shape_kinds s))
      (each_weaker (LeafFrom (suc i) fs) (LeafFrom i (field n r s fs)) (later_leaf n i r s fs) (leaves_from fs (suc i)) (fields_kinds fs (suc i)))

  shape_kinds : (s : Shape) → Each (λ l. is_shape_leaf s l.kind l.path ≡ true) (shape_leaves s)
  shape_kinds (leaf k) = (ap (λ b. b && true) (same_kind-itself k), tt)
  shape_kinds (group fs) = each_weaker (LeafFrom 0 fs) (λ l. is_leaf fs l ≡ true) (leaf_at_first fs) (leaves_from fs 0) (fields_kinds fs 0)

-- each leaf of a schema is one of it, of its kind
pub schema_leaves_are : (fs : Fields) → list_all (is_leaf fs) (leaves fs) ≡ true
schema_leaves_are fs = each_passes (is_leaf fs) (leaves fs) (each_weaker (LeafFrom 0 fs) (λ l. is_leaf fs l ≡ true) (leaf_at_first fs) (leaves_from fs 0) (fields_kinds fs 0))

pub leaves_of_schema : (fs : Fields) (ls : List Leaf) → ls ≡ leaves fs → OfSomeSchema ls
leaves_of_schema fs ls e = (fs, ap (list_all (is_leaf fs)) e ∙ schema_leaves_are fs)
