-- The leaves of the root are those of the schema.
use Rattle.std.proofs.Common.{◌≡◌, ◌∙◌, ℕ, suc, List, [], ◌∷◌, ◌++◌, map, refl, sym, ap₂, append_assoc}
use Rattle.std.proofs.lemmas.List.{append-nil, map-append}
use Rattle.dr_meaning.specs.Schema.{Fields, no_fields, field, Shape, leaf, group}
use Rattle.dr_meaning.specs.Path as path
use Rattle.dr_meaning.specs.Path.{Step, Leaf, leaf_below, leaves_from}
use Rattle.dr_paths.specs.Ways.{Passed, root_way, way_below, fields_leaves, shape_leaves}

-- a leaf behind a way
abbrev leaf_behind : Passed → Leaf → Leaf
leaf_behind w l = record { names = w.names ++ l.names; path = w.steps ++ l.path; kind = l.kind }

one_behind : (w : Passed) (n : List ℕ) (s : Step) (l : Leaf) → leaf_behind (way_below w n s) l ≡ leaf_behind w (leaf_below n s l)
one_behind w n s l =
    let a : (w.names ++ n ∷ []) ++ l.names ≡ w.names ++ (n ∷ l.names) = append_assoc w.names (n ∷ []) l.names in
    let b : (w.steps ++ s ∷ []) ++ l.path ≡ w.steps ++ (s ∷ l.path) = append_assoc w.steps (s ∷ []) l.path in
    rw (a, b) refl

all_behind : (w : Passed) (n : List ℕ) (s : Step) (ls : List Leaf) → map (leaf_behind (way_below w n s)) ls ≡ map (leaf_behind w) (map (leaf_below n s) ls)
all_behind w n s [] = refl
all_behind w n s (l ∷ ls) = ap₂ (λ (x : Leaf) (xs : List Leaf). x ∷ xs) (one_behind w n s l) (all_behind w n s ls)

mutual
  fields_behind : (w : Passed) (fs : Fields) (i : ℕ) → fields_leaves w fs i ≡ map (leaf_behind w) (leaves_from fs i)
  fields_behind w no_fields i = refl
  fields_behind w (field n r s fs) i =
      let step : Step = record { place = i; repetition = r } in
      ap₂ (λ (xs ys : List Leaf). xs ++ ys) (shape_behind (way_below w n step) s ∙ all_behind w n step (path.shape_leaves s)) (fields_behind w fs (suc i))
      ∙ sym (map-append (leaf_behind w) (map (leaf_below n step) (path.shape_leaves s)) (leaves_from fs (suc i)))

  shape_behind : (w : Passed) (s : Shape) → shape_leaves w s ≡ map (leaf_behind w) (path.shape_leaves s)
  shape_behind w (leaf k) =
      let a : w.names ++ [] ≡ w.names = append-nil w.names in
      let b : w.steps ++ [] ≡ w.steps = append-nil w.steps in
      rw (a, b) refl
  shape_behind w (group fs) = fields_behind w fs 0

behind_root : (ls : List Leaf) → map (leaf_behind root_way) ls ≡ ls
behind_root [] = refl
behind_root (l ∷ ls) = ap₂ (λ (x : Leaf) (xs : List Leaf). x ∷ xs) refl (behind_root ls)

-- the leaves of the root are those of the schema
pub leaves_of_root : (fs : Fields) → fields_leaves root_way fs 0 ≡ path.leaves fs
leaves_of_root fs = fields_behind root_way fs 0 ∙ behind_root (leaves_from fs 0)
