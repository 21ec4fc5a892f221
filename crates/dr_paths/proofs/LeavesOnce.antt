-- Each leaf that a query uses is among its leaves once.
use Rattle.std.proofs.Common.{◌≡◌, ℕ, zero, suc, ◌+◌, ◌<◌, ◌≤◌, List, [], ◌∷◌, ◌++◌, map, Bool, true, false, ◌&&◌, ◌||◌, Option, Some, None, cond, refl, sym, ap, ap₂, ◌∙◌, subst, true≢false, arith}
use Rattle.std.specs.Prelude.{◌==◌, if◌then◌else◌, filter}
use Rattle.std.specs.List.{list_any, slice_get, filter_map, cons_option}
use Rattle.std.proofs.lemmas.Bool.{and_parts, eqb-true}
use Rattle.std.proofs.lemmas.Bool.Decides.{nat_tests}
use Rattle.dr_meaning.specs.Schema.{Repetition, Kind, Fields, no_fields, field, Shape, leaf, group}
use Rattle.dr_meaning.specs.Path.{Step, Leaf, begins_with, same_path, leaf_below, leaves_from, shape_leaves, leaves, is_leaf_path, is_shape_path, same_repetition}
use Rattle.dr_meaning.specs.Automaton.{reading_order}
use Rattle.dr_meaning.specs.OrderLaws.{times}
use Rattle.dr_meaning.specs.QueryLeaves.{used_paths, query_leaves}
use Rattle.dr_meaning.proofs.LeafKinds.{kind_if_some, leaf_kind, shape_kind, kind_of_leaf}
use Rattle.dr_meaning.proofs.ProjectionLemmas.{step}
use Rattle.dr_meaning.proofs.OrderLemmas.{orders_have_each_once}
use Rattle.dr_paths.specs.LeavesLaws.{leaf_times, QueryLeavesComeOnce}

-- ---- paths by their places

same_number : (n : ℕ) → (n == n) ≡ true
same_number n = grind (arith, nat_tests)

begins_itself : (p : List Step) → begins_with p p ≡ true
begins_itself [] = refl
begins_itself (s ∷ p) = ap₂ (λ a b. a && b) (same_number s.place) (begins_itself p)

same_itself : (p : List Step) → same_path p p ≡ true
same_itself p = ap₂ (λ a b. a && b) (begins_itself p) (begins_itself p)

-- two paths with the same places begin alike, and alike begin others
record Alike (p q x : List Step) : Type 0 where
  front : begins_with q x ≡ begins_with p x
  whole : begins_with x q ≡ begins_with x p

alike : (p q x : List Step) → begins_with p q ≡ true → begins_with q p ≡ true → Alike p q x
alike [] [] x h g = record { front = refl; whole = refl }
alike [] (t ∷ q) x h g = absurd (true≢false (sym g))
alike (s ∷ p) [] x h g = absurd (true≢false (sym h))
alike (s ∷ p) (t ∷ q) [] h g = record { front = refl; whole = refl }
alike (s ∷ p) (t ∷ q) (y ∷ x) h g =
    let a = and_parts (s.place == t.place) (begins_with p q) h in
    let b = and_parts (t.place == s.place) (begins_with q p) g in
    let e : s.place ≡ t.place = eqb-true s.place t.place a.0 in
    let r = alike p q x a.1 b.1 in
    record { front = ap₂ (λ i z. (i == y.place) && z) (sym e) r.front; whole = ap₂ (λ i z. (y.place == i) && z) (sym e) r.whole }

same_alike : (p q : List Step) (ps : List (List Step)) → same_path p q ≡ true → list_any (same_path q) ps ≡ list_any (same_path p) ps
same_alike p q [] h = refl
same_alike p q (x ∷ ps) h =
    let a = and_parts (begins_with p q) (begins_with q p) h in
    let r = alike p q x a.0 a.1 in
    ap₂ (λ y z. y || z) (ap₂ (λ y z. y && z) r.front r.whole) (same_alike p q ps h)

-- ---- each path once among the leaves of a schema

times_append : (p : List Step) (xs ys : List Leaf) → leaf_times p (xs ++ ys) ≡ leaf_times p xs + leaf_times p ys
times_append p [] ys = omega arith
times_append p (x ∷ xs) ys = omega (arith, times_append p xs ys)

-- behind a field, by the place of the first step
times_below : (n : List ℕ) (i j : ℕ) (r q : Repetition) (p : List Step) (ls : List Leaf)
    → leaf_times (record { place = j; repetition = q } ∷ p) (map (leaf_below n (record { place = i; repetition = r })) ls) ≡ (if j == i then leaf_times p ls else 0)
times_below n i j r q p [] = by_place (j == i)
  where
    by_place : (b : Bool) → leaf_times p [] ≡ (if b then leaf_times p [] else 0)
    by_place true = refl
    by_place false = refl
times_below n i j r q p (l ∷ ls) = by_place (j == i) (i == j) refl refl (times_below n i j r q p ls)
  where
    rest : ℕ
    rest = leaf_times (record { place = j; repetition = q } ∷ p) (map (leaf_below n (record { place = i; repetition = r })) ls)

    by_place : (b c : Bool) → (j == i) ≡ b → (i == j) ≡ c → rest ≡ (if b then leaf_times p ls else 0)
        → (if (b && begins_with p l.path) && (c && begins_with l.path p) then 1 else 0) + rest ≡ (if b then (if same_path p l.path then 1 else 0) + leaf_times p ls else 0)
    by_place true true e f h = ap (λ m. (if same_path p l.path then 1 else 0) + m) h
    by_place true false e f h = absurd (true≢false (sym (same_number i) ∙ (ap (λ k. i == k) (sym (eqb-true j i e)) ∙ f)))
    by_place false c e f h = omega (arith, h)

-- of a leaf that is the whole path there are no steps
times_none : (fs : Fields) (i : ℕ) → leaf_times [] (leaves_from fs i) ≡ 0
times_none no_fields i = refl
times_none (field n r s fs) i = times_append [] (map (leaf_below n (record { place = i; repetition = r })) (shape_leaves s)) (leaves_from fs (suc i)) ∙ ap₂ (λ a b. a + b) (none (shape_leaves s)) (times_none fs (suc i))
  where
    none : (ls : List Leaf) → leaf_times [] (map (leaf_below n (record { place = i; repetition = r })) ls) ≡ 0
    none [] = refl
    none (l ∷ ls) = omega (arith, none ls)

if_other : (b : Bool) (m : ℕ) → b ≡ false → (if b then m else 0) ≡ 0
if_other true m h = absurd (true≢false h)
if_other false m h = refl

times_before : (fs : Fields) (i j : ℕ) (q : Repetition) (p : List Step) → j < i → leaf_times (record { place = j; repetition = q } ∷ p) (leaves_from fs i) ≡ 0
times_before no_fields i j q p h = refl
times_before (field n r s fs) i j q p h =
    let other : (j == i) ≡ false = grind (arith, nat_tests) in
    times_append (record { place = j; repetition = q } ∷ p) (map (leaf_below n (record { place = i; repetition = r })) (shape_leaves s)) (leaves_from fs (suc i))
    ∙ ap₂ (λ a b. a + b) (times_below n i j r q p (shape_leaves s) ∙ if_other (j == i) (leaf_times p (shape_leaves s)) other) (times_before fs (suc i) j q p (omega (arith, h)))

mutual
  once_in_fields : (fs : Fields) (i : ℕ) (p : List Step) → leaf_times p (leaves_from fs i) ≤ 1
  once_in_fields no_fields i p = omega arith
  once_in_fields (field n r s fs) i [] = let e = times_none (field n r s fs) i in omega (arith, e)
  once_in_fields (field n r s fs) i (t ∷ p) =
      let first = map (leaf_below n (record { place = i; repetition = r })) (shape_leaves s) in
      let e = times_append (t ∷ p) first (leaves_from fs (suc i)) in
      let b = times_below n i t.place r t.repetition p (shape_leaves s) in
      by_place (t.place == i) refl e b (once_in_shape s p) (once_in_fields fs (suc i) (t ∷ p))
    where
      by_place : (b : Bool) → (t.place == i) ≡ b
          → leaf_times (t ∷ p) (leaves_from (field n r s fs) i) ≡ leaf_times (t ∷ p) (map (leaf_below n (record { place = i; repetition = r })) (shape_leaves s)) + leaf_times (t ∷ p) (leaves_from fs (suc i))
          → leaf_times (t ∷ p) (map (leaf_below n (record { place = i; repetition = r })) (shape_leaves s)) ≡ (if b then leaf_times p (shape_leaves s) else 0)
          → leaf_times p (shape_leaves s) ≤ 1 → leaf_times (t ∷ p) (leaves_from fs (suc i)) ≤ 1 → leaf_times (t ∷ p) (leaves_from (field n r s fs) i) ≤ 1
      by_place true f e b h g =
          let k : t.place ≡ i = eqb-true t.place i f in
          let none = times_before fs (suc i) t.place t.repetition p (omega (arith, k)) in
          omega (arith, e, b, h, none)
      by_place false f e b h g = omega (arith, e, b, g)

  once_in_shape : (s : Shape) (p : List Step) → leaf_times p (shape_leaves s) ≤ 1
  once_in_shape (leaf k) p = by_path (same_path p [])
    where
      by_path : (b : Bool) → (if b then 1 else 0) + 0 ≤ 1
      by_path true = omega arith
      by_path false = omega arith
  once_in_shape (group fs) p = once_in_fields fs 0 p

there : (ls : List Leaf) (i : ℕ) (l : Leaf) → slice_get ls i ≡ Some l → 1 ≤ leaf_times l.path ls
there [] i l h = absurd (cc)
there (m ∷ ls) zero l h = let e : m ≡ l = cc in subst (λ (x : Leaf). 1 ≤ (if same_path l.path x.path then 1 else 0) + leaf_times l.path ls) (sym e) (rw (same_itself l.path) (omega arith))
there (m ∷ ls) (suc i) l h = omega (arith, there ls i l h)

once : (fs : Fields) (i : ℕ) (l : Leaf) → slice_get (leaves fs) i ≡ Some l → leaf_times l.path (leaves fs) ≡ 1
once fs i l h = omega (arith, once_in_fields fs 0 l.path, there (leaves fs) i l h)

-- ---- of those that pass a test of their paths

of_used : (p : List Step) (ps : List (List Step)) (ls : List Leaf)
    → leaf_times p (filter (λ (l : Leaf). list_any (same_path l.path) ps) ls) ≡ (if list_any (same_path p) ps then leaf_times p ls else 0)
of_used p ps [] = by_use (list_any (same_path p) ps)
  where
    by_use : (b : Bool) → leaf_times p [] ≡ (if b then leaf_times p [] else 0)
    by_use true = refl
    by_use false = refl
of_used p ps (l ∷ ls) = by_same (same_path p l.path) refl (list_any (same_path p) ps) refl (list_any (same_path l.path) ps) refl (of_used p ps ls)
  where
    f : Leaf → Bool
    f = λ (m : Leaf). list_any (same_path m.path) ps

    by_same : (a : Bool) → same_path p l.path ≡ a → (b : Bool) → list_any (same_path p) ps ≡ b → (c : Bool) → list_any (same_path l.path) ps ≡ c
        → leaf_times p (filter f ls) ≡ (if b then leaf_times p ls else 0)
        → leaf_times p (cond c (l ∷ filter f ls) (filter f ls)) ≡ (if b then (if a then 1 else 0) + leaf_times p ls else 0)
    by_same true e true u true v h = ap₂ (λ (x : Bool) m. (if x then 1 else 0) + m) e h
    by_same true e false u false v h = h
    by_same true e true u false v h = absurd (true≢false (sym u ∙ (sym (same_alike p l.path ps e) ∙ v)))
    by_same true e false u true v h = absurd (true≢false (sym v ∙ (same_alike p l.path ps e ∙ u)))
    by_same false e true u true v h = ap₂ (λ (x : Bool) m. (if x then 1 else 0) + m) e h
    by_same false e false u true v h = ap₂ (λ (x : Bool) m. (if x then 1 else 0) + m) e h
    by_same false e b u false v h = by_use b h
      where
        by_use : (b : Bool) → leaf_times p (filter f ls) ≡ (if b then leaf_times p ls else 0) → leaf_times p (filter f ls) ≡ (if b then 0 + leaf_times p ls else 0)
        by_use true h = omega (arith, h)
        by_use false h = h

-- ---- leaves by places, each of which comes once

if_one : Bool → ℕ → ℕ
if_one true n = n
if_one false n = 0

abbrev weight : List Step → ℕ → List Leaf → List ℕ → ℕ
weight p k [] js = 0
weight p k (l ∷ ls) js = (if same_path p l.path then times k js else 0) + weight p (suc k) ls js

-- what one place adds
abbrev hit : List Step → ℕ → List Leaf → ℕ → ℕ
hit p k [] j = 0
hit p k (l ∷ ls) j = (if same_path p l.path then (if j == k then 1 else 0) else 0) + hit p (suc k) ls j

abbrev one : List Step → Option Leaf → ℕ
one p None = 0
one p (Some l) = if same_path p l.path then 1 else 0

weight_none : (p : List Step) (k : ℕ) (ls : List Leaf) → weight p k ls [] ≡ 0
weight_none p k [] = refl
weight_none p k (l ∷ ls) = by_same (same_path p l.path) (weight_none p (suc k) ls)
  where
    by_same : (a : Bool) → weight p (suc k) ls [] ≡ 0 → (if a then 0 else 0) + weight p (suc k) ls [] ≡ 0
    by_same true h = omega (arith, h)
    by_same false h = omega (arith, h)

weight_more : (p : List Step) (k : ℕ) (ls : List Leaf) (j : ℕ) (js : List ℕ) → weight p k ls (j ∷ js) ≡ hit p k ls j + weight p k ls js
weight_more p k [] j js = refl
weight_more p k (l ∷ ls) j js = by_same (same_path p l.path) (weight_more p (suc k) ls j js)
  where
    by_same : (a : Bool) → weight p (suc k) ls (j ∷ js) ≡ hit p (suc k) ls j + weight p (suc k) ls js
        → (if a then (if j == k then 1 else 0) + times k js else 0) + weight p (suc k) ls (j ∷ js) ≡ ((if a then (if j == k then 1 else 0) else 0) + hit p (suc k) ls j) + ((if a then times k js else 0) + weight p (suc k) ls js)
    by_same true h = omega (arith, h)
    by_same false h = omega (arith, h)

hit_before : (p : List Step) (k : ℕ) (ls : List Leaf) (j : ℕ) → j < k → hit p k ls j ≡ 0
hit_before p k [] j h = refl
hit_before p k (l ∷ ls) j h = by_same (same_path p l.path) (hit_before p (suc k) ls j (omega (arith, h)))
  where
    other : (j == k) ≡ false
    other = grind (arith, nat_tests)

    by_same : (a : Bool) → hit p (suc k) ls j ≡ 0 → (if a then (if j == k then 1 else 0) else 0) + hit p (suc k) ls j ≡ 0
    by_same true g = rw other (omega (arith, g))
    by_same false g = omega (arith, g)

hit_at : (p : List Step) (k : ℕ) (ls : List Leaf) (i j : ℕ) → j ≡ k + i → hit p k ls j ≡ one p (slice_get ls i)
hit_at p k [] i j e = refl
hit_at p k (l ∷ ls) zero j e = by_same (same_path p l.path) (hit_before p (suc k) ls j (omega (arith, e)))
  where
    here : (j == k) ≡ true
    here = grind (arith, nat_tests)

    by_same : (a : Bool) → hit p (suc k) ls j ≡ 0 → (if a then (if j == k then 1 else 0) else 0) + hit p (suc k) ls j ≡ (if a then 1 else 0)
    by_same true g = rw here (omega (arith, g))
    by_same false g = omega (arith, g)
hit_at p k (l ∷ ls) (suc i) j e = by_same (same_path p l.path) (hit_at p (suc k) ls i j (omega (arith, e)))
  where
    other : (j == k) ≡ false
    other = grind (arith, nat_tests)

    by_same : (a : Bool) → hit p (suc k) ls j ≡ one p (slice_get ls i) → (if a then (if j == k then 1 else 0) else 0) + hit p (suc k) ls j ≡ one p (slice_get ls i)
    by_same true g = rw other (omega (arith, g))
    by_same false g = omega (arith, g)

taken : (p : List Step) (ls : List Leaf) (js : List ℕ) → leaf_times p (filter_map (slice_get ls) js) ≡ weight p 0 ls js
taken p ls [] = sym (weight_none p 0 ls)
taken p ls (j ∷ js) = by_item (slice_get ls j) refl (taken p ls js)
  where
    by_item : (o : Option Leaf) → slice_get ls j ≡ o → leaf_times p (filter_map (slice_get ls) js) ≡ weight p 0 ls js
        → leaf_times p (cons_option o (filter_map (slice_get ls) js)) ≡ weight p 0 ls (j ∷ js)
    by_item None e h = let a = weight_more p 0 ls j js in let b = hit_at p 0 ls j j (omega arith) ∙ ap (one p) e in omega (arith, a, b, h)
    by_item (Some l) e h = let a = weight_more p 0 ls j js in let b = hit_at p 0 ls j j (omega arith) ∙ ap (one p) e in omega (arith, a, b, h)

each_once : (p : List Step) (k : ℕ) (ls : List Leaf) (js : List ℕ) → ((i : ℕ) (l : Leaf) → slice_get ls i ≡ Some l → times (k + i) js ≡ 1) → weight p k ls js ≡ leaf_times p ls
each_once p k [] js h = refl
each_once p k (l ∷ ls) js h =
    let first : times k js ≡ 1 = subst (λ n. times n js ≡ 1) (omega arith) (h 0 l refl) in
    let rest = each_once p (suc k) ls js (λ i m g. subst (λ n. times n js ≡ 1) (omega arith) (h (suc i) m g)) in
    ap₂ (λ m n. (if same_path p l.path then m else 0) + n) first rest

-- ---- the law

abbrev steps_of : List Leaf → List (List Step)
steps_of ls = map (λ (l : Leaf). l.path) ls

step_at : (ls : List Leaf) (i : ℕ) (l : Leaf) → slice_get ls i ≡ Some l → slice_get (steps_of ls) i ≡ Some l.path
step_at [] i l h = absurd (cc)
step_at (m ∷ ls) zero l h = let e : m ≡ l = cc in ap (λ (x : Leaf). Some x.path) e
step_at (m ∷ ls) (suc i) l h = step_at ls i l h

-- the leaves of a schema have the paths of leaves
mutual
  field_path : (fs : Fields) (i : ℕ) (r : Repetition) (p : List Step) (k : Kind) → leaf_kind fs (step i r ∷ p) ≡ Some k → is_leaf_path fs (step i r ∷ p) ≡ true
  field_path no_fields i r p k h = absurd (cc)
  field_path (field n q s fs) zero r p k h =
      let g : (same_repetition r q ≡ true) × (shape_kind s p ≡ Some k) = kind_if_some (same_repetition r q) (shape_kind s p) k h in
      ap₂ (λ a b. a && b) g.0 (shape_path s p k g.1)
  field_path (field n q s fs) (suc i) r p k h = field_path fs i r p k h

  shape_path : (s : Shape) (p : List Step) (k : Kind) → shape_kind s p ≡ Some k → is_shape_path s p ≡ true
  shape_path (leaf j) [] k h = refl
  shape_path (leaf j) (t ∷ p) k h = absurd (cc)
  shape_path (group no_fields) [] k h = absurd (cc)
  shape_path (group (field n q s fs)) [] k h = absurd (cc)
  shape_path (group fs) (t ∷ p) k h = field_path fs t.place t.repetition p k h

leaf_path : (fs : Fields) (i : ℕ) (l : Leaf) → slice_get (leaves fs) i ≡ Some l → is_leaf_path fs l.path ≡ true
leaf_path fs i l h = shape_path (group fs) l.path l.kind (kind_of_leaf fs i l h)

-- and so have those that pass a test
tested_path : (fs : Fields) (f : Leaf → Bool) (ls : List Leaf) → ((i : ℕ) (l : Leaf) → slice_get ls i ≡ Some l → is_leaf_path fs l.path ≡ true)
    → (i : ℕ) (l : Leaf) → slice_get (filter f ls) i ≡ Some l → is_leaf_path fs l.path ≡ true
tested_path fs f [] h i l e = h i l e
tested_path fs f (m ∷ ls) h i l e = by_test (f m) i e (λ j g. tested_path fs f ls (λ k n x. h (suc k) n x) j l g)
  where
    by_test : (b : Bool) (i : ℕ) → slice_get (cond b (m ∷ filter f ls) (filter f ls)) i ≡ Some l → ((j : ℕ) → slice_get (filter f ls) j ≡ Some l → is_leaf_path fs l.path ≡ true)
        → is_leaf_path fs l.path ≡ true
    by_test true zero g later = h 0 l g
    by_test true (suc i) g later = later i g
    by_test false i g later = later i g

pub leaves_come_once : QueryLeavesComeOnce
unfolding query_leaves
leaves_come_once fs q i l h =
    let f : Leaf → Bool = λ (m : Leaf). list_any (same_path m.path) (used_paths q) in
    let ls = filter f (leaves fs) in
    let js = reading_order fs (steps_of ls) in
    let orders : (j : ℕ) (m : Leaf) → slice_get ls j ≡ Some m → times j js ≡ 1 =
    λ j m g. (orders_have_each_once fs (steps_of ls) j m.path (step_at ls j m g) (tested_path fs f (leaves fs) (leaf_path fs) j m g)).1 in
    taken l.path ls js ∙ (each_once l.path 0 ls js (λ j m g. subst (λ n. times n js ≡ 1) (omega arith) (orders j m g))
    ∙ (of_used l.path (used_paths q) (leaves fs) ∙ ap (λ n. if list_any (same_path l.path) (used_paths q) then n else 0) (once fs i l h)))
