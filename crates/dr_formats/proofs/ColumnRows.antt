-- The paths of a schema's leaves are leaf paths, and a column of records has one start for each record.
pub use Rattle.dr_meaning.proofs.ColumnStarts.{starts_append, column_rows}
use Rattle.std.proofs.Common.{◌≡◌, ℕ, suc, ◌+◌, List, [], ◌∷◌, map, true, refl, sym, ap, ◌∙◌, subst, arith}
use Rattle.std.proofs.lemmas.Bool.{and_from}
use Rattle.dr_meaning.specs.Schema.{Repetition, required, optional, repeated, Fields, no_fields, field, Shape, leaf, group}
use Rattle.dr_meaning.specs.Path.{Step, Leaf, leaf_below, leaves_from, shape_leaves, leaves, is_leaf_path, is_shape_path, same_repetition}
use Rattle.dr_formats.proofs.ColumnsFit.{EachLeaf, each_append}

-- ---- the paths of leaves

each_weaker : (P Q : Leaf → Type 0) → ((l : Leaf) → P l → Q l) → (ls : List Leaf) → EachLeaf P ls → EachLeaf Q ls
each_weaker P Q f [] h = tt
each_weaker P Q f (l ∷ ls) h = (f l h.0, each_weaker P Q f ls h.1)

pub each_below : (P Q : Leaf → Type 0) (n : List ℕ) (s : Step) → ((l : Leaf) → P l → Q (leaf_below n s l)) → (ls : List Leaf) → EachLeaf P ls → EachLeaf Q (map (leaf_below n s) ls)
each_below P Q n s f [] h = tt
each_below P Q n s f (l ∷ ls) h = (f l h.0, each_below P Q n s f ls h.1)

abbrev step : ℕ → Repetition → Step
step i r = record { place = i; repetition = r }

-- a leaf of a group whose first field has the place i
abbrev PathFrom : ℕ → Fields → Leaf → Type 0
PathFrom i fs l = (j : ℕ) × (r : Repetition) × (q : List Step) × (l.path ≡ step (i + j) r ∷ q) × (is_leaf_path fs (step j r ∷ q) ≡ true)

same_itself : (r : Repetition) → same_repetition r r ≡ true
same_itself required = refl
same_itself optional = refl
same_itself repeated = refl

no_shift : (j : ℕ) → 0 + j ≡ j
no_shift j = omega arith

path_at_first : (fs : Fields) (l : Leaf) → PathFrom 0 fs l → is_leaf_path fs l.path ≡ true
path_at_first fs l h = subst (λ (p : List Step). is_leaf_path fs p ≡ true) (sym (h.3 ∙ ap (λ (j : ℕ). step j h.1 ∷ h.2) (no_shift h.0))) h.4

first_path : (n : List ℕ) (i : ℕ) (r : Repetition) (s : Shape) (fs : Fields) (l : Leaf) → is_shape_path s l.path ≡ true → PathFrom i (field n r s fs) (leaf_below n (step i r) l)
first_path n i r s fs l h =
    let e : i ≡ i + 0 = omega arith in
    (0, r, l.path, ap (λ (j : ℕ). step j r ∷ l.path) e, and_from _ _ (same_itself r) h)

later_path : (n : List ℕ) (i : ℕ) (r : Repetition) (s : Shape) (fs : Fields) (l : Leaf) → PathFrom (suc i) fs l → PathFrom i (field n r s fs) l
later_path n i r s fs l h =
    let e : suc i + h.0 ≡ i + suc h.0 = omega arith in
    (suc h.0, h.1, h.2, h.3 ∙ ap (λ (j : ℕ). step j h.1 ∷ h.2) e, h.4)

mutual
  fields_paths : (fs : Fields) (i : ℕ) → EachLeaf (PathFrom i fs) (leaves_from fs i)
  fields_paths no_fields i = tt
  fields_paths (field n r s fs) i = each_append (PathFrom i (field n r s fs)) (map (leaf_below n (step i r)) (shape_leaves s)) (leaves_from fs (suc i)) (each_below (λ l. is_shape_path s l.path ≡ true) (PathFrom i (field n r s fs)) n (step i r) (first_path n i r s fs) (shape_leaves s) (shape_paths s)) (each_weaker (PathFrom (suc i) fs) (PathFrom i (field n r s fs)) (later_path n i r s fs) (leaves_from fs (suc i)) (fields_paths fs (suc i)))

  shape_paths : (s : Shape) → EachLeaf (λ l. is_shape_path s l.path ≡ true) (shape_leaves s)
  shape_paths (leaf k) = (refl, tt)
  shape_paths (group fs) = each_weaker (PathFrom 0 fs) (λ l. is_leaf_path fs l.path ≡ true) (path_at_first fs) (leaves_from fs 0) (fields_paths fs 0)

-- the path of each leaf of a schema is that of a leaf
pub leaf_paths : (fs : Fields) → EachLeaf (λ l. is_leaf_path fs l.path ≡ true) (leaves fs)
leaf_paths fs = each_weaker (PathFrom 0 fs) (λ l. is_leaf_path fs l.path ≡ true) (path_at_first fs) (leaves_from fs 0) (fields_paths fs 0)
