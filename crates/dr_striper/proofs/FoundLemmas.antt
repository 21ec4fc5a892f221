-- A leaf that was found in a schema is a leaf of it, of its kind.
use Rattle.std.proofs.Common.{◌≡◌, ℕ, suc, ◌+◌, List, [], ◌∷◌, ◌++◌, Bool, true, false, ◌&&◌, Option, Some, None, refl, sym, ap, ap₂, ◌∙◌, arith, append-nil}
use Rattle.std.specs.Prelude.{if◌then◌else◌, bytes_eq, option_map, option_and_then, Ok}
use Rattle.dr_meaning.specs.Schema.{Kind, bool_kind, int32_kind, int64_kind, text_kind, Repetition, required, optional, repeated, Fields, no_fields, field, Shape, leaf, group, fields_of, same_kind}
use Rattle.dr_meaning.specs.Path.{Step, Leaf, Found, named_field, found_below, resolve, find_path, cut_at_dots, leaf_at, found_leaf, find_leaf, same_repetition}
use Rattle.dr_meaning.proofs.ProjectionLemmas.{step}
use Rattle.dr_striper.specs.Leaves.{is_leaf_of, is_shape_leaf}

abbrev leaf_of : Kind → Fields → List Step → Bool
leaf_of u fs p = is_leaf_of fs u p

abbrev shape_of : Kind → Shape → List Step → Bool
shape_of u s p = is_shape_leaf s u p

pub same_repetition-itself : (r : Repetition) → same_repetition r r ≡ true
same_repetition-itself required = refl
same_repetition-itself optional = refl
same_repetition-itself repeated = refl

-- a found field's step, before a leaf path of its shape, is a leaf path
abbrev IsFound : (u : Kind) → ℕ → Fields → Found → Type 0
IsFound u i fs f = (j : ℕ) × (r : Repetition) × (f.path ≡ step (i + j) r ∷ []) × ((p : List Step) → shape_of u f.shape p ≡ true → leaf_of u fs (step j r ∷ p) ≡ true)

named_here : (u : Kind) → (i : ℕ) (m : List ℕ) (r : Repetition) (s : Shape) (fs : Fields) (f : Found) → Some (record { path = step i r ∷ []; shape = s }) ≡ Some f → IsFound u i (field m r s fs) f
named_here u i m r s fs f e =
    let g : record { path = step i r ∷ []; shape = s } ≡ f = cc in
    let k : i ≡ i + 0 = omega arith in (
      0,
      r,
      sym (ap (λ (x : Found). x.path) g) ∙ ap (λ (j : ℕ). step j r ∷ []) k,
      λ (p : List Step) (h : shape_of u f.shape p ≡ true). ap₂ (λ a b. a && b) (same_repetition-itself r) (ap (λ (x : Found). shape_of u x.shape p) g ∙ h),
    )

named_later : (u : Kind) → (i : ℕ) (m : List ℕ) (r : Repetition) (s : Shape) (fs : Fields) (f : Found) → IsFound u (suc i) fs f → IsFound u i (field m r s fs) f
named_later u i m r s fs f h =
    let k : suc i + h.0 ≡ i + suc h.0 = omega arith in
    (suc h.0, h.1, h.2 ∙ ap (λ (j : ℕ). step j h.1 ∷ []) k, h.3)

by_name : (u : Kind) → (i : ℕ) (m : List ℕ) (r : Repetition) (s : Shape) (fs : Fields) (f : Found) (later : Option Found) → (later ≡ Some f → IsFound u (suc i) fs f) → (b : Bool)
    → (if b then Some (record { path = step i r ∷ []; shape = s }) else later) ≡ Some f → IsFound u i (field m r s fs) f
by_name u i m r s fs f later g true h = named_here u i m r s fs f h
by_name u i m r s fs f later g false h = named_later u i m r s fs f (g h)

named_is : (u : Kind) → (n : List ℕ) (i : ℕ) (fs : Fields) (f : Found) → named_field n i fs ≡ Some f → IsFound u i fs f
named_is u n i no_fields f e = absurd (cc)
named_is u n i (field m r s fs) f e = by_name u i m r s fs f (named_field n (suc i) fs) (named_is u n (suc i) fs f) (bytes_eq n m) e

below_is : (u : Kind) → (s : Shape) (g f : Found) (o : Option Found) → IsFound u 0 (fields_of s) g → ((h : Found) → o ≡ Some h → (q : List Step) → shape_of u h.shape q ≡ true → shape_of u g.shape (h.path ++ q) ≡ true)
    → option_map (found_below g) o ≡ Some f → (q : List Step) → shape_of u f.shape q ≡ true → leaf_of u (fields_of s) (f.path ++ q) ≡ true
below_is u s g f None a b e q t = absurd (cc)
below_is u s g f (Some h) a b e q t =
    let k : found_below g h ≡ f = cc in
    let i : 0 + a.0 ≡ a.0 = omega arith in
    let p : g.path ≡ step a.0 a.1 ∷ [] = a.2 ∙ ap (λ (j : ℕ). step j a.1 ∷ []) i in
    let w : leaf_of u (fields_of s) (step a.0 a.1 ∷ (h.path ++ q)) ≡ true = a.3 (h.path ++ q) (b h refl q (ap (λ (x : Found). shape_of u x.shape q) k ∙ t)) in
    ap (λ (x : Found). leaf_of u (fields_of s) (x.path ++ q)) (sym k) ∙ ap (λ (v : List Step). leaf_of u (fields_of s) ((v ++ h.path) ++ q)) p ∙ w

shape_from_fields : (u : Kind) → (s : Shape) (q : List Step) → leaf_of u (fields_of s) q ≡ true → shape_of u s q ≡ true
shape_from_fields u (leaf k) q h = absurd (cc)
shape_from_fields u (group fs) q h = h

-- the fields behind a found one lead on to leaf paths of its shape
abbrev LeadsOn : (u : Kind) → List (List ℕ) → Shape → Type 0
LeadsOn u ns s = (f : Found) → resolve ns s ≡ Some f → (q : List Step) → shape_of u f.shape q ≡ true → shape_of u s (f.path ++ q) ≡ true

by_field : (u : Kind) → (n : List ℕ) (ns : List (List ℕ)) (s : Shape) (f : Found) (q : List Step) → ((t : Shape) → LeadsOn u ns t) → (o : Option Found) → named_field n 0 (fields_of s) ≡ o
    → option_and_then (λ (g : Found). option_map (found_below g) (resolve ns g.shape)) o ≡ Some f → shape_of u f.shape q ≡ true → shape_of u s (f.path ++ q) ≡ true
by_field u n ns s f q on None h k t = absurd (cc)
by_field u n ns s f q on (Some g) h k t = shape_from_fields u s (f.path ++ q) (below_is u s g f (resolve ns g.shape) (named_is u n 0 (fields_of s) g h) (on g.shape) k q t)

resolved_is : (u : Kind) → (ns : List (List ℕ)) (s : Shape) → LeadsOn u ns s
resolved_is u [] s f e q t = let k : record { path = []; shape = s } ≡ f = cc in ap (λ (x : Found). shape_of u s (x.path ++ q)) (sym k) ∙ ap (λ (x : Found). shape_of u x.shape q) k ∙ t
resolved_is u (n ∷ ns) s f e q t = by_field u n ns s f q (resolved_is u ns) (named_field n 0 (fields_of s)) refl e t

pub same_kind-itself : (k : Kind) → same_kind k k ≡ true
same_kind-itself bool_kind = refl
same_kind-itself int32_kind = refl
same_kind-itself int64_kind = refl
same_kind-itself text_kind = refl

of_shape : (ns : List (List ℕ)) (fs : Fields) (f : Found) (l : Leaf) → find_path ns fs ≡ Some f → (s : Shape) → f.shape ≡ s → leaf_at ns f.path s ≡ Ok l → is_leaf_of fs l.kind l.path ≡ true
of_shape ns fs f l h (group gs) k g = absurd (cc)
of_shape ns fs f l h (leaf k) w g =
    let p : record { names = ns; path = f.path; kind = k } ≡ l = cc in
    ap (λ (x : Leaf). is_leaf_of fs x.kind x.path) (sym p) ∙ ap (is_leaf_of fs k) (sym (append-nil f.path))
    ∙ resolved_is k ns (group fs) f h [] (ap (λ (s : Shape). is_shape_leaf s k []) w ∙ ap (λ b. b && true) (same_kind-itself k))

leaf_is : (ns : List (List ℕ)) (fs : Fields) (o : Option Found) (l : Leaf) → find_path ns fs ≡ o → found_leaf ns o ≡ Ok l → is_leaf_of fs l.kind l.path ≡ true
leaf_is ns fs None l h e = absurd (cc)
leaf_is ns fs (Some f) l h e = of_shape ns fs f l h f.shape refl e

-- the leaf that was found is a leaf of its kind
pub found_is_of : (text : List ℕ) (fs : Fields) (l : Leaf) → find_leaf text fs ≡ Ok l → is_leaf_of fs l.kind l.path ≡ true
found_is_of text fs l e = leaf_is (cut_at_dots text) fs (find_path (cut_at_dots text) fs) l refl e
