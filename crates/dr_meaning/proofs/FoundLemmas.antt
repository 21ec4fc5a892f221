-- A leaf that was found in a schema has a leaf path of it.
use Rattle.std.proofs.Common.{◌≡◌, ℕ, suc, ◌+◌, List, [], ◌∷◌, ◌++◌, Bool, true, false, ◌&&◌, Option, Some, None, refl, sym, ap, ap₂, ◌∙◌, arith, append-nil}
use Rattle.std.specs.Prelude.{if◌then◌else◌, bytes_eq, option_map, option_and_then, Ok}
use Rattle.dr_meaning.specs.Schema.{Repetition, required, optional, repeated, Fields, no_fields, field, Shape, leaf, group, fields_of}
use Rattle.dr_meaning.specs.Path.{Step, Leaf, Found, named_field, found_below, resolve, find_path, cut_at_dots, leaf_at, found_leaf, find_leaf, same_repetition, is_leaf_path, is_shape_path}
use Rattle.dr_meaning.proofs.ProjectionLemmas.{step}

same_repetition-itself : (r : Repetition) → same_repetition r r ≡ true
same_repetition-itself required = refl
same_repetition-itself optional = refl
same_repetition-itself repeated = refl

-- a found field's step, before a leaf path of its shape, is a leaf path
abbrev IsFound : ℕ → Fields → Found → Type 0
IsFound i fs f = (j : ℕ) × (r : Repetition) × (f.path ≡ step (i + j) r ∷ []) × ((p : List Step) → is_shape_path f.shape p ≡ true → is_leaf_path fs (step j r ∷ p) ≡ true)

named_here : (i : ℕ) (m : List ℕ) (r : Repetition) (s : Shape) (fs : Fields) (f : Found) → Some (record { path = step i r ∷ []; shape = s }) ≡ Some f → IsFound i (field m r s fs) f
named_here i m r s fs f e =
    let g : record { path = step i r ∷ []; shape = s } ≡ f = cc in
    let k : i ≡ i + 0 = omega arith in (
      0,
      r,
      sym (ap (λ (x : Found). x.path) g) ∙ ap (λ (j : ℕ). step j r ∷ []) k,
      λ (p : List Step) (h : is_shape_path f.shape p ≡ true). ap₂ (λ a b. a && b) (same_repetition-itself r) (ap (λ (x : Found). is_shape_path x.shape p) g ∙ h),
    )

named_later : (i : ℕ) (m : List ℕ) (r : Repetition) (s : Shape) (fs : Fields) (f : Found) → IsFound (suc i) fs f → IsFound i (field m r s fs) f
named_later i m r s fs f h =
    let k : suc i + h.0 ≡ i + suc h.0 = omega arith in
    (suc h.0, h.1, h.2 ∙ ap (λ (j : ℕ). step j h.1 ∷ []) k, h.3)

by_name : (i : ℕ) (m : List ℕ) (r : Repetition) (s : Shape) (fs : Fields) (f : Found) (later : Option Found) → (later ≡ Some f → IsFound (suc i) fs f) → (b : Bool)
    → (if b then Some (record { path = step i r ∷ []; shape = s }) else later) ≡ Some f → IsFound i (field m r s fs) f
by_name i m r s fs f later g true h = named_here i m r s fs f h
by_name i m r s fs f later g false h = named_later i m r s fs f (g h)

named_is : (n : List ℕ) (i : ℕ) (fs : Fields) (f : Found) → named_field n i fs ≡ Some f → IsFound i fs f
named_is n i no_fields f e = absurd (cc)
named_is n i (field m r s fs) f e = by_name i m r s fs f (named_field n (suc i) fs) (named_is n (suc i) fs f) (bytes_eq n m) e

below_is : (s : Shape) (g f : Found) (o : Option Found) → IsFound 0 (fields_of s) g → ((h : Found) → o ≡ Some h → (q : List Step) → is_shape_path h.shape q ≡ true → is_shape_path g.shape (h.path ++ q) ≡ true)
    → option_map (found_below g) o ≡ Some f → (q : List Step) → is_shape_path f.shape q ≡ true → is_leaf_path (fields_of s) (f.path ++ q) ≡ true
below_is s g f None a b e q t = absurd (cc)
below_is s g f (Some h) a b e q t =
    let k : found_below g h ≡ f = cc in
    let i : 0 + a.0 ≡ a.0 = omega arith in
    let p : g.path ≡ step a.0 a.1 ∷ [] = a.2 ∙ ap (λ (j : ℕ). step j a.1 ∷ []) i in
    let w : is_leaf_path (fields_of s) (step a.0 a.1 ∷ (h.path ++ q)) ≡ true = a.3 (h.path ++ q) (b h refl q (ap (λ (x : Found). is_shape_path x.shape q) k ∙ t)) in
    ap (λ (x : Found). is_leaf_path (fields_of s) (x.path ++ q)) (sym k) ∙ ap (λ (u : List Step). is_leaf_path (fields_of s) ((u ++ h.path) ++ q)) p ∙ w

shape_from_fields : (s : Shape) (q : List Step) → is_leaf_path (fields_of s) q ≡ true → is_shape_path s q ≡ true
shape_from_fields (leaf k) q h = absurd (cc)
shape_from_fields (group fs) q h = h

-- the fields behind a found one lead on to leaf paths of its shape
abbrev LeadsOn : List (List ℕ) → Shape → Type 0
LeadsOn ns s = (f : Found) → resolve ns s ≡ Some f → (q : List Step) → is_shape_path f.shape q ≡ true → is_shape_path s (f.path ++ q) ≡ true

by_field : (n : List ℕ) (ns : List (List ℕ)) (s : Shape) (f : Found) (q : List Step) → ((t : Shape) → LeadsOn ns t) → (o : Option Found) → named_field n 0 (fields_of s) ≡ o
    → option_and_then (λ (g : Found). option_map (found_below g) (resolve ns g.shape)) o ≡ Some f → is_shape_path f.shape q ≡ true → is_shape_path s (f.path ++ q) ≡ true
by_field n ns s f q on None h k t = absurd (cc)
by_field n ns s f q on (Some g) h k t = shape_from_fields s (f.path ++ q) (below_is s g f (resolve ns g.shape) (named_is n 0 (fields_of s) g h) (on g.shape) k q t)

resolved_is : (ns : List (List ℕ)) (s : Shape) → LeadsOn ns s
resolved_is [] s f e q t = let k : record { path = []; shape = s } ≡ f = cc in ap (λ (x : Found). is_shape_path s (x.path ++ q)) (sym k) ∙ ap (λ (x : Found). is_shape_path x.shape q) k ∙ t
resolved_is (n ∷ ns) s f e q t = by_field n ns s f q (resolved_is ns) (named_field n 0 (fields_of s)) refl e t

pub leaf_is : (ns : List (List ℕ)) (fs : Fields) (o : Option Found) (l : Leaf) → find_path ns fs ≡ o → found_leaf ns o ≡ Ok l → is_leaf_path fs l.path ≡ true
leaf_is ns fs None l h e = absurd (cc)
leaf_is ns fs (Some f) l h e = by_shape f.shape refl e where
  by_shape : (s : Shape) → f.shape ≡ s → leaf_at ns f.path s ≡ Ok l → is_leaf_path fs l.path ≡ true
  by_shape (group gs) k g = absurd (cc)
  by_shape (leaf k) w g =
      let p : record { names = ns; path = f.path; kind = k } ≡ l = cc in
      ap (λ (x : Leaf). is_leaf_path fs x.path) (sym p) ∙ ap (is_leaf_path fs) (sym (append-nil f.path)) ∙ resolved_is ns (group fs) f h [] (ap (λ (s : Shape). is_shape_path s []) w)

-- the path of a leaf that was found is a leaf path
pub found_is_leaf : (text : List ℕ) (fs : Fields) (l : Leaf) → find_leaf text fs ≡ Ok l → is_leaf_path fs l.path ≡ true
found_is_leaf text fs l e = leaf_is (cut_at_dots text) fs (find_path (cut_at_dots text) fs) l refl e
