-- The leaves of the root are those of the schema.
use Rattle.std.proofs.Common.{◌≡◌, ◌∙◌, ℕ, suc, ◌+◌, List, [], ◌∷◌, ◌++◌, map, refl, sym, ap₂, append_assoc, arith}
use Rattle.std.proofs.lemmas.List.{append-nil, map-append}
use Rattle.dr_meaning.specs.Schema.{Repetition, repetition_count, definition_count, Fields, no_fields, field, Shape, leaf, group}
use Rattle.dr_meaning.specs.Path as path
use Rattle.dr_meaning.specs.Path.{Leaf, leaf_below, leaves_from, max_repetition, max_definition}
use Rattle.dr_write.specs.Chunks.{WrittenLeaf, written_leaf}
use Rattle.dr_write.specs.Leaves.{Passed, passed_below, at_root, fields_leaves, shape_leaves}

-- a leaf behind a way
abbrev leaf_behind : Passed → Leaf → WrittenLeaf
leaf_behind w l = record {
  names = w.names ++ l.names;
  kind = l.kind;
  max_repetition = w.repetition + max_repetition l.path;
  max_definition = w.definition + max_definition l.path;
}

one_behind : (w : Passed) (n : List ℕ) (i : ℕ) (r : Repetition) (l : Leaf) → leaf_behind (passed_below w n r) l ≡ leaf_behind w (leaf_below n (record { place = i; repetition = r }) l)
one_behind w n i r l =
    let a : (w.names ++ n ∷ []) ++ l.names ≡ w.names ++ (n ∷ l.names) = append_assoc w.names (n ∷ []) l.names in
    let b : w.repetition + repetition_count r + max_repetition l.path ≡ w.repetition + (repetition_count r + max_repetition l.path) = omega arith in
    let c : w.definition + definition_count r + max_definition l.path ≡ w.definition + (definition_count r + max_definition l.path) = omega arith in
    rw (a, b, c) refl

all_behind : (w : Passed) (n : List ℕ) (i : ℕ) (r : Repetition) (ls : List Leaf) → map (leaf_behind (passed_below w n r)) ls ≡ map (leaf_behind w) (map (leaf_below n (record { place = i; repetition = r })) ls)
all_behind w n i r [] = refl
all_behind w n i r (l ∷ ls) = ap₂ (λ (x : WrittenLeaf) (xs : List WrittenLeaf). x ∷ xs) (one_behind w n i r l) (all_behind w n i r ls)

mutual
  fields_behind : (w : Passed) (fs : Fields) (i : ℕ) → fields_leaves w fs ≡ map (leaf_behind w) (leaves_from fs i)
  fields_behind w no_fields i = refl
  fields_behind w (field n r s fs) i =
      ap₂ (λ (xs ys : List WrittenLeaf). xs ++ ys) (shape_behind (passed_below w n r) s ∙ all_behind w n i r (path.shape_leaves s)) (fields_behind w fs (suc i))
      ∙ sym (map-append (leaf_behind w) (map (leaf_below n (record { place = i; repetition = r })) (path.shape_leaves s)) (leaves_from fs (suc i)))

  shape_behind : (w : Passed) (s : Shape) → shape_leaves w s ≡ map (leaf_behind w) (path.shape_leaves s)
  shape_behind w (leaf k) =
      let a : w.names ++ [] ≡ w.names = append-nil w.names in
      let b : w.repetition + 0 ≡ w.repetition = omega arith in
      let c : w.definition + 0 ≡ w.definition = omega arith in
      rw (a, b, c) refl
  shape_behind w (group fs) = fields_behind w fs 0

at_root_same : (ls : List Leaf) → map (leaf_behind at_root) ls ≡ map written_leaf ls
at_root_same [] = refl
at_root_same (l ∷ ls) =
    let b : 0 + max_repetition l.path ≡ max_repetition l.path = omega arith in
    let c : 0 + max_definition l.path ≡ max_definition l.path = omega arith in
    let e : leaf_behind at_root l ≡ written_leaf l = rw (b, c) refl in
    ap₂ (λ (x : WrittenLeaf) (xs : List WrittenLeaf). x ∷ xs) e (at_root_same ls)

-- the leaves of the root are those of the schema
pub leaves_of_root : (fs : Fields) → fields_leaves at_root fs ≡ map written_leaf (path.leaves fs)
leaves_of_root fs = fields_behind at_root fs 0 ∙ at_root_same (leaves_from fs 0)
