-- A path that was found has no more steps than the schema is deep.
use Rattle.std.specs.Prelude.{◌≡◌, ◌≤◌, ℕ, suc, ◌+◌, max, List, [], ◌∷◌, ◌++◌, length, map, Bool, true, false, ◌&&◌, bytes_eq, nat_le, if◌then◌else◌, Option, Some, None, option_map, option_and_then}
use Rattle.std.proofs.Common.{refl, sym, ap, ◌∙◌, subst, arith, length-append}
use Rattle.std.proofs.lemmas.List.{length-map}
use Rattle.std.proofs.lemmas.Bool.{and_parts, leb-true}
use Rattle.dr_meaning.specs.Schema as tree
use Rattle.dr_meaning.specs.Path.{Step, Found, named_field, found_below, resolve, find_path}
use Rattle.dr_nested.specs.PathView.{step_view}
use Rattle.dr_nested.specs.Finding.{behind}
use Rattle.dr_nested.specs.declared.path.Step as code
use Rattle.dr_nested.proofs.FindingLemmas.{behind_nothing}

-- a found path, and what is deep below it, fit in a depth
abbrev pub FitsDepth : Found → ℕ → Type 0
FitsDepth f d = length f.path + tree.shape_depth f.shape ≤ d

same_found : (f g : Found) (d : ℕ) → Some f ≡ Some g → FitsDepth f d → FitsDepth g d
same_found f g d e h = let k : f ≡ g = cc in subst (λ (x : Found). FitsDepth x d) k h

named_here : (b : Bool) (i : ℕ) (r : tree.Repetition) (s : tree.Shape) (m : Option Found) (f : Found) (d : ℕ)
    → ((g : Found) → m ≡ Some g → FitsDepth g d)
    → (if b then Some (record { path = record { place = i; repetition = r } ∷ []; shape = s }) else m) ≡ Some f → FitsDepth f (max (1 + tree.shape_depth s) d)
named_here true i r s m f d h e = same_found _ f _ e (omega arith)
named_here false i r s m f d h e = let k : FitsDepth f d = h f e in omega (arith, k)

pub named_within : (n : List ℕ) (i : ℕ) (fs : tree.Fields) (f : Found) → named_field n i fs ≡ Some f → FitsDepth f (tree.depth fs)
named_within n i tree.no_fields f e = absurd (nothing f e)
  where
    nothing : (g : Found) → None ≡ Some g → ⊥
    nothing g q = cc
named_within n i (tree.field m r s fs) f e = named_here (bytes_eq n m) i r s (named_field n (suc i) fs) f (tree.depth fs) (λ g q. named_within n (suc i) fs g q) e

below_within : (f g : Found) (m : Option Found) (d : ℕ) → FitsDepth f d → ((h : Found) → m ≡ Some h → FitsDepth h (tree.shape_depth f.shape)) → option_map (found_below f) m ≡ Some g → FitsDepth g d
below_within f g None d v w e = absurd (nothing g e)
  where
    nothing : (h : Found) → None ≡ Some h → ⊥
    nothing h q = cc
below_within f g (Some h) d v w e =
    let k : FitsDepth h (tree.shape_depth f.shape) = w h refl in
    let l : length (f.path ++ h.path) ≡ length f.path + length h.path = length-append f.path h.path in
    same_found (found_below f h) g d e (omega (arith, v, k, l))

fields_depth : (s : tree.Shape) → tree.depth (tree.fields_of s) ≤ tree.shape_depth s
fields_depth (tree.leaf k) = omega arith
fields_depth (tree.group fs) = omega arith

step_within : (below : tree.Shape → Option Found) (m : Option Found) (f : Found) (d : ℕ) → ((s : tree.Shape) (g : Found) → below s ≡ Some g → FitsDepth g (tree.shape_depth s)) → ((g : Found) → m ≡ Some g → FitsDepth g d)
    → option_and_then (λ (g : Found). option_map (found_below g) (below g.shape)) m ≡ Some f → FitsDepth f d
step_within below None f d w h e = absurd (nothing f e)
  where
    nothing : (g : Found) → None ≡ Some g → ⊥
    nothing g q = cc
step_within below (Some g) f d w h e = below_within g f (below g.shape) d (h g refl) (w g.shape) e

pub resolve_within : (ns : List (List ℕ)) (s : tree.Shape) (f : Found) → resolve ns s ≡ Some f → FitsDepth f (tree.shape_depth s)
resolve_within [] s f e = same_found (record { path = []; shape = s }) f (tree.shape_depth s) e (omega arith)
resolve_within (n ∷ ns) s f e = step_within (resolve ns) (named_field n 0 (tree.fields_of s)) f (tree.shape_depth s)
    (λ t g q. resolve_within ns t g q)
    (λ g q. let k : FitsDepth g (tree.depth (tree.fields_of s)) = named_within n 0 (tree.fields_of s) g q in let l : tree.depth (tree.fields_of s) ≤ tree.shape_depth s = fields_depth s in omega (arith, k, l)) e

is_within : (s : tree.Schema) → tree.is_schema s ≡ true → tree.depth s.fields ≤ tree.greatest_depth
is_within s v =
    let a : (((tree.is_short_name s.name && tree.is_shape (tree.group s.fields)) && nat_le (tree.depth s.fields) tree.greatest_depth) ≡ true) × (nat_le (tree.leaf_count s.fields) tree.most_leaves ≡ true) = and_parts _ _ v in
    let b : ((tree.is_short_name s.name && tree.is_shape (tree.group s.fields)) ≡ true) × (nat_le (tree.depth s.fields) tree.greatest_depth ≡ true) = and_parts _ _ a.0 in
    leb-true _ _ b.1

-- the steps to a leaf of a schema are within its depth
pub steps_within : (ns : List (List ℕ)) (s : tree.Schema) (before : List Step) (steps : List code.Step) (k : tree.Shape) → tree.is_schema s ≡ true → before ≡ []
    → option_map (behind before) (find_path ns s.fields) ≡ Some (record { path = map step_view steps; shape = k }) → length steps ≤ tree.greatest_depth
steps_within ns s before steps k v b e =
    let f : option_map (behind []) (find_path ns s.fields) ≡ Some (record { path = map step_view steps; shape = k }) = ap (λ (p : List Step). option_map (behind p) (find_path ns s.fields)) (sym b) ∙ e in
    let w : FitsDepth (record { path = map step_view steps; shape = k }) (tree.depth s.fields) = resolve_within ns (tree.group s.fields) _ (sym (behind_nothing (find_path ns s.fields)) ∙ f) in
    let l : length (map step_view steps) ≡ length steps = length-map steps step_view in
    let d : tree.depth s.fields ≤ tree.greatest_depth = is_within s v in
    omega (arith, w, l, d)
