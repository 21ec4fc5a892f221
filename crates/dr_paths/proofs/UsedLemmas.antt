-- A leaf that a query uses is among the leaves of the query, by its path.
use Rattle.std.proofs.Common.{◌≡◌, inl, inr, ℕ, zero, suc, ◌≤◌, ◌+◌, List, [], ◌∷◌, map, Bool, true, false, ◌&&◌, Option, Some, None, cond, refl, sym, ap, ap₂, ◌∙◌, subst, true≢false, arith}
use Rattle.std.specs.Prelude.{◌==◌, if◌then◌else◌, option_map, filter}
use Rattle.std.specs.List.{list_any, slice_get, filter_map, cons_option}
use Rattle.std.proofs.lemmas.Bool.{and_parts, eqb-true}
use Rattle.dr_meaning.specs.Schema.{Repetition, required, optional, repeated, Kind, Fields, no_fields, field, Shape, leaf, group}
use Rattle.dr_meaning.specs.Path.{Step, Leaf, begins_with, same_path, same_repetition, leaves}
use Rattle.dr_meaning.specs.Automaton.{reading_order}
use Rattle.dr_meaning.specs.Query.{Query}
use Rattle.dr_meaning.specs.QueryLeaves.{used_paths, in_reading_order, query_leaves}
use Rattle.dr_meaning.proofs.ProjectionLemmas.{step}
use Rattle.dr_meaning.proofs.LeafKinds.{kind_if_some, leaf_kind, shape_kind, kind_of_leaf}
use Rattle.dr_meaning.proofs.FindingLemmas.{In, in_at, at_in}
use Rattle.dr_paths.specs.LeavesLaws.{leaf_times}
use Rattle.dr_paths.proofs.LeavesOnce.{leaves_come_once}
use Rattle.dr_paths.specs.Numbers.{number_among}

-- ---- the number of a path that some leaves have

and_swap : (a b : Bool) → (a && b) ≡ (b && a)
and_swap true true = refl
and_swap true false = refl
and_swap false true = refl
and_swap false false = refl

same_swap : (p q : List Step) → same_path p q ≡ same_path q p
same_swap p q = and_swap (begins_with p q) (begins_with q p)

abbrev Numbered : List Leaf → List Step → Type 0
Numbered ls p = (j : ℕ) × (m : Leaf) × (number_among ls p ≡ Some j) × (slice_get ls j ≡ Some m) × (same_path m.path p ≡ true)

numbered : (p : List Step) (ls : List Leaf) → 1 ≤ leaf_times p ls → Numbered ls p
numbered p [] h = absurd (omega (arith, h))
numbered p (l ∷ ls) h = by_same (same_path l.path p) refl (subst (λ (b : Bool). 1 ≤ (if b then 1 else 0) + leaf_times p ls) (same_swap p l.path) h) (numbered p ls)
  where
    by_same : (b : Bool) → same_path l.path p ≡ b → 1 ≤ (if b then 1 else 0) + leaf_times p ls → (1 ≤ leaf_times p ls → Numbered ls p)
        → (j : ℕ) × (m : Leaf) × ((if b then Some 0 else option_map (λ i. suc i) (number_among ls p)) ≡ Some j) × (slice_get (l ∷ ls) j ≡ Some m) × (same_path m.path p ≡ true)
    by_same true e k later = (0, l, refl, refl, e)
    by_same false e k later = let r : Numbered ls p = later (omega (arith, k)) in (suc r.0, r.1, ap (option_map (λ i. suc i)) r.2, r.3, r.4)

-- ---- a path of a leaf of the schema, by its places

same_repetition-true : (a b : Repetition) → same_repetition a b ≡ true → a ≡ b
same_repetition-true required required h = refl
same_repetition-true optional optional h = refl
same_repetition-true repeated repeated h = refl
same_repetition-true required optional h = absurd (true≢false (sym h))
same_repetition-true required repeated h = absurd (true≢false (sym h))
same_repetition-true optional required h = absurd (true≢false (sym h))
same_repetition-true optional repeated h = absurd (true≢false (sym h))
same_repetition-true repeated required h = absurd (true≢false (sym h))
same_repetition-true repeated optional h = absurd (true≢false (sym h))

mutual
  one_path_in : (fs : Fields) (i : ℕ) (a b : Repetition) (p q : List Step) (j k : Kind) → leaf_kind fs (step i a ∷ p) ≡ Some j → leaf_kind fs (step i b ∷ q) ≡ Some k
      → begins_with p q ≡ true → begins_with q p ≡ true → (a ≡ b) × (p ≡ q)
  one_path_in no_fields i a b p q j k h g x y = absurd (cc)
  one_path_in (field n r s fs) zero a b p q j k h g x y =
      let u : (same_repetition a r ≡ true) × (shape_kind s p ≡ Some j) = kind_if_some (same_repetition a r) (shape_kind s p) j h in
      let v : (same_repetition b r ≡ true) × (shape_kind s q ≡ Some k) = kind_if_some (same_repetition b r) (shape_kind s q) k g in
      (same_repetition-true a r u.0 ∙ sym (same_repetition-true b r v.0), one_path s p q j k u.1 v.1 x y)
  one_path_in (field n r s fs) (suc i) a b p q j k h g x y = one_path_in fs i a b p q j k h g x y

  one_path : (s : Shape) (p q : List Step) (j k : Kind) → shape_kind s p ≡ Some j → shape_kind s q ≡ Some k → begins_with p q ≡ true → begins_with q p ≡ true → p ≡ q
  one_path s [] [] j k h g x y = refl
  one_path s [] (u ∷ q) j k h g x y = absurd (true≢false (sym y))
  one_path s (t ∷ p) [] j k h g x y = absurd (true≢false (sym x))
  one_path (leaf z) (t ∷ p) (u ∷ q) j k h g x y = absurd (cc)
  one_path (group fs) (t ∷ p) (u ∷ q) j k h g x y =
      let a = and_parts (t.place == u.place) (begins_with p q) x in
      let b = and_parts (u.place == t.place) (begins_with q p) y in
      let e : t.place ≡ u.place = eqb-true t.place u.place a.0 in
      let f : leaf_kind fs (step t.place u.repetition ∷ q) ≡ Some k = subst (λ (i : ℕ). leaf_kind fs (step i u.repetition ∷ q) ≡ Some k) (sym e) g in
      let r : (t.repetition ≡ u.repetition) × (p ≡ q) = one_path_in fs t.place t.repetition u.repetition p q j k h f a.1 b.1 in
      ap (λ (i : ℕ). step i t.repetition ∷ p) e ∙ ap₂ (λ (z : Repetition) (w : List Step). step u.place z ∷ w) r.0 r.1

-- ---- the leaves of a query are leaves of the schema

filter_in : (f : Leaf → Bool) (l : Leaf) (ls : List Leaf) → In l (filter f ls) → In l ls
filter_in f l [] h = h
filter_in f l (m ∷ ls) h = by_test (f m) h (filter_in f l ls)
  where
    by_test : (b : Bool) → In l (cond b (m ∷ filter f ls) (filter f ls)) → (In l (filter f ls) → In l ls) → In l (m ∷ ls)
    by_test true (inl e) r = inl e
    by_test true (inr g) r = inr (r g)
    by_test false g r = inr (r g)

picked_in : (l : Leaf) (ls : List Leaf) (js : List ℕ) → In l (filter_map (slice_get ls) js) → In l ls
picked_in l ls [] h = absurd h
picked_in l ls (j ∷ js) h = by_item (slice_get ls j) refl h (picked_in l ls js)
  where
    by_item : (o : Option Leaf) → slice_get ls j ≡ o → In l (cons_option o (filter_map (slice_get ls) js)) → (In l (filter_map (slice_get ls) js) → In l ls) → In l ls
    by_item None e g r = r g
    by_item (Some m) e (inl x) r = subst (λ (y : Leaf). In y ls) x (at_in m ls j e)
    by_item (Some m) e (inr g) r = r g

query_leaf_in : (fs : Fields) (q : Query) (l : Leaf) → In l (query_leaves fs q) → In l (leaves fs)
unfolding query_leaves
query_leaf_in fs q l h =
    let f : Leaf → Bool = λ (m : Leaf). list_any (same_path m.path) (used_paths q) in
    let ls = filter f (leaves fs) in
    filter_in f l (leaves fs) (picked_in l ls (reading_order fs (map (λ (m : Leaf). m.path) ls)) h)

-- ---- both together

kind_along : (fs : Fields) (l m : Leaf) → leaf_kind fs l.path ≡ Some l.kind → leaf_kind fs m.path ≡ Some m.kind → m.path ≡ l.path → m.kind ≡ l.kind
kind_along fs l m h g e = one m.kind l.kind (sym g ∙ (ap (leaf_kind fs) e ∙ h))
  where
    one : (j k : Kind) → Some j ≡ Some k → j ≡ k
    one j k x = cc

-- a leaf that a query uses has a number among the leaves of the query, and the leaf of this number has its path and its kind
pub number_of_used : (fs : Fields) (q : Query) (i : ℕ) (l : Leaf) → slice_get (leaves fs) i ≡ Some l → list_any (same_path l.path) (used_paths q) ≡ true
    → (j : ℕ) × (m : Leaf) × (number_among (query_leaves fs q) l.path ≡ Some j) × (slice_get (query_leaves fs q) j ≡ Some m) × (m.path ≡ l.path) × (m.kind ≡ l.kind)
number_of_used fs q i l h u =
    let once : leaf_times l.path (query_leaves fs q) ≡ 1 = leaves_come_once fs q i l h ∙ ap (λ (b : Bool). if b then 1 else 0) u in
    let r : Numbered (query_leaves fs q) l.path = numbered l.path (query_leaves fs q) (omega (arith, once)) in
    let a : (n : ℕ) × (slice_get (leaves fs) n ≡ Some r.1) = in_at r.1 (leaves fs) (query_leaf_in fs q r.1 (at_in r.1 (query_leaves fs q) r.0 r.3)) in
    let k = kind_of_leaf fs i l h in
    let x = kind_of_leaf fs a.0 r.1 a.1 in
    let s = and_parts (begins_with r.1.path l.path) (begins_with l.path r.1.path) r.4 in
    let e : r.1.path ≡ l.path = one_path (group fs) r.1.path l.path r.1.kind l.kind x k s.0 s.1 in
    (r.0, r.1, r.2, r.3, e, kind_along fs l r.1 k x e)

-- the leaves on which the used paths of a query end are the leaves of the query
pub leaves_of_used : (fs : Fields) (q : Query) (ps : List (List Step)) → ps ≡ used_paths q → in_reading_order fs (filter (λ (l : Leaf). list_any (same_path l.path) ps) (leaves fs)) ≡ query_leaves fs q
unfolding query_leaves
leaves_of_used fs q ps e = ap (λ (qs : List (List Step)). in_reading_order fs (filter (λ (l : Leaf). list_any (same_path l.path) qs) (leaves fs))) e
