-- A text leads to a group exactly where it is on the way to a leaf; to no field exactly where it neither names one nor is on the way to one.
use Rattle.std.proofs.Common.{◌≡◌, ℕ, suc, List, [], ◌∷◌, ◌++◌, map, Bool, true, false, Option, Some, None, refl, sym, ap, ◌∙◌, subst, true≢false}
use Rattle.std.specs.Prelude.{◌==◌, if◌then◌else◌, bytes_eq, option_map, option_and_then, Result, Ok, Err}
use Rattle.std.specs.List.{slice_get, join_with_byte}
use Rattle.std.proofs.lemmas.Bool.{and_parts}
use Rattle.dr_meaning.specs.Schema.{Kind, Fields, no_fields, field, Shape, leaf, group, fields_of, is_group, is_shape, is_nonempty}
use Rattle.dr_meaning.specs.Path.{Step, Leaf, Found, named_field, found_below, resolve, find_path, cut_at_dots, leaf_at, found_leaf, find_leaf}
use Rattle.dr_meaning.specs.Path.{PathFault, unknown_field, not_a_leaf, leaf_below, leaves_from, shape_leaves}
use Rattle.dr_meaning.specs.PathLaws.{IsNamedLeaf}
use Rattle.dr_meaning.proofs.SchemaReadsBack.{FirstField, first_of_group}
use Rattle.dr_meaning.proofs.FindingLemmas.{find_leaf_is_exact}
use Rattle.dr_query_laws.specs.FindLaws.{IsOnTheWay, FindGroupIsExact, FindNothingIsExact}
use Rattle.dr_meaning.specs.Lists.{onto_first}

-- ---- a text cut at its dots

abbrev SomeNames : List (List ℕ) → Type 0
SomeNames ns = (n : List ℕ) × (ms : List (List ℕ)) × (ns ≡ n ∷ ms)

pub cut_some : (t : List ℕ) → SomeNames (cut_at_dots t)
cut_some [] = ([], [], refl)
cut_some (b ∷ t) = by_test (b == 46) (cut_some t)
  where
    by_test : (d : Bool) → SomeNames (cut_at_dots t) → SomeNames (if d then [] ∷ cut_at_dots t else onto_first b (cut_at_dots t))
    by_test true h = ([], cut_at_dots t, refl)
    by_test false h = (b ∷ h.0, h.1, ap (onto_first b) h.2)

onto_more : (b : ℕ) (ns ms : List (List ℕ)) → SomeNames ns → onto_first b (ns ++ ms) ≡ onto_first b ns ++ ms
onto_more b ns ms h = ap (λ (xs : List (List ℕ)). onto_first b (xs ++ ms)) h.2 ∙ ap (λ (xs : List (List ℕ)). onto_first b xs ++ ms) (sym h.2)

-- what is behind a dot is cut by itself
pub cut_behind : (t r : List ℕ) → cut_at_dots (t ++ 46 ∷ r) ≡ cut_at_dots t ++ cut_at_dots r
cut_behind [] r = refl
cut_behind (b ∷ t) r = by_test (b == 46) (cut_behind t r)
  where
    by_test : (d : Bool) → cut_at_dots (t ++ 46 ∷ r) ≡ cut_at_dots t ++ cut_at_dots r → (if d then [] ∷ cut_at_dots (t ++ 46 ∷ r) else onto_first b (cut_at_dots (t ++ 46 ∷ r))) ≡ (if d then [] ∷ cut_at_dots t else onto_first b (cut_at_dots t)) ++ cut_at_dots r
    by_test true k = ap (λ (xs : List (List ℕ)). [] ∷ xs) k
    by_test false k = ap (onto_first b) k ∙ onto_more b (cut_at_dots t) (cut_at_dots r) (cut_some t)

-- ---- names behind names

abbrev found : List Step → Shape → Found
found p s = record { path = p; shape = s }

no_found : (f : Found) → None ≡ Some f → ⊥
no_found f e = cc

same_found : (f g : Found) → Some f ≡ Some g → f ≡ g
same_found f g e = cc

-- names of which more follow lead to a group
abbrev LeadsToGroup : List (List ℕ) → Shape → Type 0
LeadsToGroup ns s = (g : Found) × (gs : Fields) × (resolve ns s ≡ Some g) × (g.shape ≡ group gs)

leads_to_group : (ns : List (List ℕ)) (m : List ℕ) (ms : List (List ℕ)) (s : Shape) (f : Found) → resolve (ns ++ m ∷ ms) s ≡ Some f → LeadsToGroup ns s
leads_to_group [] m ms (leaf k) f h = absurd (no_found f h)
leads_to_group [] m ms (group gs) f h = (found [] (group gs), gs, refl, refl)
leads_to_group (n ∷ ns) m ms s f h = by_field (λ t q. leads_to_group ns m ms t q) (named_field n 0 (fields_of s)) h
  where
    Further : Type 0
    Further = (t : Shape) (q : Found) → resolve (ns ++ m ∷ ms) t ≡ Some q → LeadsToGroup ns t

    below : Further → (g : Found) → (o : Option Found) → resolve (ns ++ m ∷ ms) g.shape ≡ o → option_map (found_below g) o ≡ Some f
        → (e : Found) × (gs : Fields) × (option_map (found_below g) (resolve ns g.shape) ≡ Some e) × (e.shape ≡ group gs)
    below more g None w h = absurd (no_found f h)
    below more g (Some q) w h =
        let k = more g.shape q w in
        (found_below g k.0, k.1, ap (option_map (found_below g)) k.2, k.3)

    by_field : Further → (o : Option Found) → option_and_then (λ (g : Found). option_map (found_below g) (resolve (ns ++ m ∷ ms) g.shape)) o ≡ Some f
        → (e : Found) × (gs : Fields) × (option_and_then (λ (g : Found). option_map (found_below g) (resolve ns g.shape)) o ≡ Some e) × (e.shape ≡ group gs)
    by_field more None h = absurd (no_found f h)
    by_field more (Some g) h = below more g (resolve (ns ++ m ∷ ms) g.shape) refl h

-- names lead on from where others lead to
abbrev LeadsOn : List (List ℕ) → Shape → Shape → Type 0
LeadsOn ns s t = (e : Found) × (resolve ns s ≡ Some e) × (e.shape ≡ t)

leads_on : (ns ms : List (List ℕ)) (s : Shape) (f h : Found) → resolve ns s ≡ Some f → resolve ms f.shape ≡ Some h → LeadsOn (ns ++ ms) s h.shape
leads_on [] ms s f h a b = (h, subst (λ (x : Found). resolve ms x.shape ≡ Some h) (sym (same_found (found [] s) f a)) b, refl)
leads_on (n ∷ ns) ms s f h a b = by_field (λ t q. leads_on ns ms t q h) (named_field n 0 (fields_of s)) a
  where
    Further : Type 0
    Further = (t : Shape) (q : Found) → resolve ns t ≡ Some q → resolve ms q.shape ≡ Some h → LeadsOn (ns ++ ms) t h.shape

    below : Further → (g : Found) → (o : Option Found) → resolve ns g.shape ≡ o → option_map (found_below g) o ≡ Some f
        → (e : Found) × (option_map (found_below g) (resolve (ns ++ ms) g.shape) ≡ Some e) × (e.shape ≡ h.shape)
    below more g None w a = absurd (no_found f a)
    below more g (Some q) w a =
        let k = more g.shape q w (subst (λ (x : Found). resolve ms x.shape ≡ Some h) (sym (same_found (found_below g q) f a)) b) in
        (found_below g k.0, ap (option_map (found_below g)) k.1, k.2)

    by_field : Further → (o : Option Found) → option_and_then (λ (g : Found). option_map (found_below g) (resolve ns g.shape)) o ≡ Some f
        → (e : Found) × (option_and_then (λ (g : Found). option_map (found_below g) (resolve (ns ++ ms) g.shape)) o ≡ Some e) × (e.shape ≡ h.shape)
    by_field more None a = absurd (no_found f a)
    by_field more (Some g) a = below more g (resolve ns g.shape) refl a

-- ---- what names lead to is of the right form

named_valid : (n : List ℕ) (i : ℕ) (fs : Fields) (g : Found) → is_group fs ≡ true → named_field n i fs ≡ Some g → is_shape g.shape ≡ true
named_valid n i no_fields g v e = absurd (no_found g e)
named_valid n i (field m r s fs) g v e = by_name (first_of_group m r s fs v) (bytes_eq n m) (named_valid n (suc i) fs g (first_of_group m r s fs v).3) e
  where
    by_name : FirstField m s fs → (b : Bool) → (named_field n (suc i) fs ≡ Some g → is_shape g.shape ≡ true) → (if b then Some (found (record { place = i; repetition = r } ∷ []) s) else named_field n (suc i) fs) ≡ Some g → is_shape g.shape ≡ true
    by_name p true k e = subst (λ (x : Found). is_shape x.shape ≡ true) (same_found (found (record { place = i; repetition = r } ∷ []) s) g e) p.2
    by_name p false k e = k e

resolved_valid : (ns : List (List ℕ)) (s : Shape) (f : Found) → is_shape s ≡ true → resolve ns s ≡ Some f → is_shape f.shape ≡ true
resolved_valid [] s f v e = subst (λ (x : Found). is_shape x.shape ≡ true) (same_found (found [] s) f e) v
resolved_valid (n ∷ ns) (leaf k) f v e = absurd (no_found f e)
resolved_valid (n ∷ ns) (group fs) f v e = by_field (λ t q. resolved_valid ns t q) (named_field n 0 fs) refl e
  where
    Further : Type 0
    Further = (t : Shape) (q : Found) → is_shape t ≡ true → resolve ns t ≡ Some q → is_shape q.shape ≡ true

    below : Further → (g : Found) → is_shape g.shape ≡ true → (o : Option Found) → resolve ns g.shape ≡ o → option_map (found_below g) o ≡ Some f → is_shape f.shape ≡ true
    below more g u None w e = absurd (no_found f e)
    below more g u (Some q) w e = subst (λ (x : Found). is_shape x.shape ≡ true) (same_found (found_below g q) f e) (more g.shape q u w)

    by_field : Further → (o : Option Found) → named_field n 0 fs ≡ o → option_and_then (λ (g : Found). option_map (found_below g) (resolve ns g.shape)) o ≡ Some f → is_shape f.shape ≡ true
    by_field more None w e = absurd (no_found f e)
    by_field more (Some g) w e = below more g (named_valid n 0 fs g (and_parts (is_nonempty fs) (is_group fs) v).1 w) (resolve ns g.shape) refl e

-- also from a root without fields, since a text has a name
from_root : (n : List ℕ) (ns : List (List ℕ)) (fs : Fields) (f : Found) → is_group fs ≡ true → resolve (n ∷ ns) (group fs) ≡ Some f → is_shape f.shape ≡ true
from_root n ns no_fields f v e = absurd (no_found f e)
from_root n ns (field m r s fs) f v e = resolved_valid (n ∷ ns) (group (field m r s fs)) f v e

-- ---- a group has a leaf

abbrev HasLeaf : List Leaf → Type 0
HasLeaf ls = (l : Leaf) × (rest : List Leaf) × (ls ≡ l ∷ rest)

mutual
  group_leaf : (fs : Fields) (i : ℕ) → is_nonempty fs ≡ true → is_group fs ≡ true → HasLeaf (leaves_from fs i)
  group_leaf no_fields i h v = absurd (true≢false (sym h))
  group_leaf (field m r s fs) i h v =
      let step : Step = record { place = i; repetition = r } in
      let k = shape_leaf s (first_of_group m r s fs v).2 in
      (leaf_below m step k.0, map (leaf_below m step) k.1 ++ leaves_from fs (suc i), ap (λ (xs : List Leaf). map (leaf_below m step) xs ++ leaves_from fs (suc i)) k.2)

  shape_leaf : (s : Shape) → is_shape s ≡ true → HasLeaf (shape_leaves s)
  shape_leaf (leaf k) v = (record { names = []; path = []; kind = k }, [], refl)
  shape_leaf (group fs) v = let p = and_parts (is_nonempty fs) (is_group fs) v in group_leaf fs 0 p.0 p.1

-- ---- the law

abbrev FoundLeaf : Option Found → Type 0
FoundLeaf o = (f : Found) × (k : Kind) × (o ≡ Some f) × (f.shape ≡ leaf k)

leaf_found : (ns : List (List ℕ)) (o : Option Found) (l : Leaf) → found_leaf ns o ≡ Ok l → FoundLeaf o
leaf_found ns None l h = absurd (cc)
leaf_found ns (Some f) l h = by_shape f.shape refl h
  where
    by_shape : (s : Shape) → f.shape ≡ s → leaf_at ns f.path s ≡ Ok l → FoundLeaf (Some f)
    by_shape (leaf k) e h = (f, k, refl, e)
    by_shape (group fs) e h = absurd (cc)

abbrev FoundGroup : Option Found → Type 0
FoundGroup o = (f : Found) × (gs : Fields) × (o ≡ Some f) × (f.shape ≡ group gs)

group_found : (ns : List (List ℕ)) (o : Option Found) → found_leaf ns o ≡ Err not_a_leaf → FoundGroup o
group_found ns None h = absurd (cc)
group_found ns (Some f) h = by_shape f.shape refl h
  where
    by_shape : (s : Shape) → f.shape ≡ s → leaf_at ns f.path s ≡ Err not_a_leaf → FoundGroup (Some f)
    by_shape (leaf k) e h = absurd (cc)
    by_shape (group gs) e h = (f, gs, refl, e)

-- with a text behind it, and a dot between
behind : (text rest : List ℕ) (fs : Fields) → find_leaf (text ++ 46 ∷ rest) fs ≡ found_leaf (cut_at_dots text ++ cut_at_dots rest) (find_path (cut_at_dots text ++ cut_at_dots rest) fs)
behind text rest fs = ap (λ (ns : List (List ℕ)). found_leaf ns (find_path ns fs)) (cut_behind text rest)

to_group : (text : List ℕ) (fs : Fields) → is_group fs ≡ true → IsOnTheWay text fs → find_leaf text fs ≡ Err not_a_leaf
to_group text fs v h =
    let named = (find_leaf_is_exact (text ++ 46 ∷ h.0) fs h.1 v).1 h.2 in
    let ms = cut_some h.0 in
    let f = leaf_found (cut_at_dots text ++ cut_at_dots h.0) (find_path (cut_at_dots text ++ cut_at_dots h.0) fs) h.1 (sym (behind text h.0 fs) ∙ named) in
    let g = leads_to_group (cut_at_dots text) ms.0 ms.1 (group fs) f.0 (subst (λ (xs : List (List ℕ)). find_path (cut_at_dots text ++ xs) fs ≡ Some f.0) ms.2 f.2) in
    ap (found_leaf (cut_at_dots text)) g.2 ∙ ap (leaf_at (cut_at_dots text) g.0.path) g.3

on_the_way : (text : List ℕ) (fs : Fields) → is_group fs ≡ true → find_leaf text fs ≡ Err not_a_leaf → IsOnTheWay text fs
on_the_way text fs v h =
    let ns = cut_some text in
    let g = group_found (cut_at_dots text) (find_path (cut_at_dots text) fs) h in
    let u : is_shape (group g.1) ≡ true = subst (λ (s : Shape). is_shape s ≡ true) g.3 (from_root ns.0 ns.1 fs g.0 v (subst (λ (xs : List (List ℕ)). find_path xs fs ≡ Some g.0) ns.2 g.2)) in
    let parts = and_parts (is_nonempty g.1) (is_group g.1) u in
    let l = group_leaf g.1 0 parts.0 parts.1 in
    let rest : List ℕ = join_with_byte 46 l.0.names in
    let named = (find_leaf_is_exact rest g.1 l.0 parts.1).1 (0, ap (λ (ls : List Leaf). slice_get ls 0) l.2, refl) in
    let f = leaf_found (cut_at_dots rest) (find_path (cut_at_dots rest) g.1) l.0 named in
    let on = leads_on (cut_at_dots text) (cut_at_dots rest) (group fs) g.0 f.0 g.2 (subst (λ (s : Shape). resolve (cut_at_dots rest) s ≡ Some f.0) (sym g.3) f.2) in
    let all : List (List ℕ) = cut_at_dots text ++ cut_at_dots rest in
    let found_there : find_leaf (text ++ 46 ∷ rest) fs ≡ Ok (record { names = all; path = on.0.path; kind = f.1 }) =
    behind text rest fs ∙ (ap (found_leaf all) on.1 ∙ ap (leaf_at all on.0.path) (on.2 ∙ f.3)) in
    (rest, record { names = all; path = on.0.path; kind = f.1 }, (find_leaf_is_exact (text ++ 46 ∷ rest) fs _ v).0 found_there)

pub find_group_is_exact : FindGroupIsExact
find_group_is_exact text fs v = (on_the_way text fs v, to_group text fs v)

pub find_nothing_is_exact : FindNothingIsExact
find_nothing_is_exact text fs v = (λ h. (none_named h, none_on_the_way h), nothing)
  where
    none_named : find_leaf text fs ≡ Err unknown_field → (l : Leaf) → IsNamedLeaf text fs l → ⊥
    none_named h l n = let e = sym h ∙ (find_leaf_is_exact text fs l v).1 n in cc

    none_on_the_way : find_leaf text fs ≡ Err unknown_field → IsOnTheWay text fs → ⊥
    none_on_the_way h w = let e = sym h ∙ to_group text fs v w in cc

    nothing : ((l : Leaf) → IsNamedLeaf text fs l → ⊥) × (IsOnTheWay text fs → ⊥) → find_leaf text fs ≡ Err unknown_field
    nothing h = by_case (find_leaf text fs) refl
      where
        by_case : (r : Result Leaf PathFault) → find_leaf text fs ≡ r → find_leaf text fs ≡ Err unknown_field
        by_case (Ok l) e = absurd (h.0 l ((find_leaf_is_exact text fs l v).0 e))
        by_case (Err unknown_field) e = e
        by_case (Err not_a_leaf) e = absurd (h.1 (on_the_way text fs v e))
