-- The leaves that a query uses are in reading order, each once.
use Rattle.std.proofs.Common.{◌≡◌, ◌⊎◌, inl, inr, ℕ, zero, suc, ◌+◌, ◌<◌, ◌≤◌, List, [], ◌∷◌, ◌++◌, map, length, Bool, true, false, ◌&&◌, Option}
use Rattle.std.proofs.Common.{Some, None, cond, refl, sym, ap, ap₂, ◌∙◌, subst, true≢false, arith}
use Rattle.std.specs.Prelude.{◌==◌, if◌then◌else◌, not, option_map, filter}
use Rattle.std.specs.List.{slice_get, list_all, list_any, filter_map, cons_option}
use Rattle.std.proofs.lemmas.Bool.{and_parts, eq-eqb, ne_eqb, eqb-true}
use Rattle.dr_meaning.specs.Schema.{Kind, Repetition, Fields, no_fields, field, Shape, leaf, group}
use Rattle.dr_meaning.specs.Path.{Step, Leaf, paths_of_leaves, begins_with, same_path, same_repetition, is_leaf_path, is_shape_path, leaf_below}
use Rattle.dr_meaning.specs.Path.{leaves_from, shape_leaves, leaves}
use Rattle.dr_meaning.specs.Automaton.{Pick, picks, picks_from, near_order, far_order, reading_order, indexes, counting}
use Rattle.dr_meaning.specs.AutomatonLaws.{AreInReadingOrder}
use Rattle.dr_meaning.specs.OrderLaws.{times}
use Rattle.dr_meaning.specs.QueryLeaves.{used_paths, in_reading_order, query_leaves}
use Rattle.dr_meaning.proofs.LeafKinds.{kind_if_some, leaf_kind, shape_kind, kind_of_leaf}
use Rattle.dr_meaning.proofs.ProjectionLemmas.{step}
use Rattle.dr_meaning.proofs.WalkLemmas.{Without}
use Rattle.dr_meaning.proofs.OrderLemmas.{times_append, none_in_both, orders_have_each_once}
use Rattle.dr_meaning.proofs.QueryLeavesLemmas.{query_leaves_are_leaves}
use Rattle.dr_moves.specs.Selection.{differs, all_differ}
use Rattle.dr_made_laws.specs.LeavesInOrder.{QueryLeavesInOrder}
use Rattle.dr_made_laws.proofs.PicksAt.{below, picks_at, Alike, order_alike, picked, picked_or_not}

-- ---- places among numbers of which each comes once

abbrev place_of : ℕ → List ℕ → ℕ
place_of i [] = 0
place_of i (j ∷ js) = if j == i then 0 else suc (place_of i js)

abbrev AtMostOnce : List ℕ → Type 0
AtMostOnce js = (j : ℕ) → times j js ≤ 1

once_behind : (x : ℕ) (js : List ℕ) → AtMostOnce (x ∷ js) → AtMostOnce js
once_behind x js h j = omega (arith, h j)

itself : (x : ℕ) (js : List ℕ) → times x (x ∷ js) ≡ suc (times x js)
itself x js = rw (eq-eqb x x refl) (omega arith)

gone_behind : (x : ℕ) (js : List ℕ) → AtMostOnce (x ∷ js) → times x js ≡ 0
gone_behind x js h = omega (arith, h x, itself x js)

-- x isn't the first of them, and not among the others
not_first : (x k : ℕ) (ks : List ℕ) → times x (k ∷ ks) ≡ 0 → ((x == k) ≡ false) × (times x ks ≡ 0)
not_first x k ks h = by_test (k == x) refl h
  where
    by_test : (b : Bool) → (k == x) ≡ b → (if b then 1 else 0) + times x ks ≡ 0 → ((x == k) ≡ false) × (times x ks ≡ 0)
    by_test true e h = absurd (omega (arith, h))
    by_test false e h = (ne_eqb x k (λ q. true≢false (sym (eq-eqb k x (sym q)) ∙ e)), omega (arith, h))

one_later : (x : ℕ) (js ks : List ℕ) → times x ks ≡ 0 → map (λ i. place_of i (x ∷ js)) ks ≡ map (λ (n : ℕ). suc n) (map (λ i. place_of i js) ks)
one_later x js [] h = refl
one_later x js (k ∷ ks) h =
    let a : ((x == k) ≡ false) × (times x ks ≡ 0) = not_first x k ks h in
    ap₂ (λ (b : Bool) (l : List ℕ). (if b then 0 else suc (place_of k js)) ∷ l) a.0 (one_later x js ks a.1)

one_more : (k n : ℕ) → map (λ (n : ℕ). suc n) (counting k n) ≡ counting (suc k) n
one_more k zero = refl
one_more k (suc n) = ap (λ (l : List ℕ). suc k ∷ l) (one_more (suc k) n)

numbered : (js : List ℕ) → AtMostOnce js → map (λ i. place_of i js) js ≡ counting 0 (length js)
numbered [] h = refl
numbered (x ∷ js) h =
    ap₂ (λ (b : Bool) (l : List ℕ). (if b then 0 else suc (place_of x js)) ∷ l) (eq-eqb x x refl)
    (one_later x js js (gone_behind x js h) ∙ (ap (map (λ (n : ℕ). suc n)) (numbered js (once_behind x js h)) ∙ one_more 0 (length js)))

-- ---- what is chosen of a list by its places

abbrev chosen : List (List Step) → List ℕ → List (List Step)
chosen F js = filter_map (slice_get F) js

abbrev AreIn : List (List Step) → List ℕ → Type 0
AreIn F js = (j : ℕ) → 0 < times j js → (p : List Step) × (slice_get F j ≡ Some p)

in_behind : (F : List (List Step)) (x : ℕ) (js : List ℕ) → AreIn F (x ∷ js) → AreIn F js
in_behind F x js h j n = h j (omega (arith, n))

in_first : (F : List (List Step)) (x : ℕ) (js : List ℕ) → AreIn F (x ∷ js) → (p : List Step) × (slice_get F x ≡ Some p)
in_first F x js h = h x (omega (arith, itself x js))

chosen_length : (F : List (List Step)) (js : List ℕ) → AreIn F js → length (chosen F js) ≡ length js
chosen_length F [] h = refl
chosen_length F (x ∷ js) h =
    ap (λ (o : Option (List Step)). length (cons_option o (chosen F js))) (in_first F x js h).1 ∙ ap suc (chosen_length F js (in_behind F x js h))

chosen_at : (F : List (List Step)) (i : ℕ) (p : List Step) (js : List ℕ) → slice_get F i ≡ Some p → AreIn F js → 0 < times i js
    → slice_get (chosen F js) (place_of i js) ≡ Some p
chosen_at F i p [] e h n = absurd (omega (arith, n))
chosen_at F i p (x ∷ js) e h n = by_test (x == i) refl n (chosen_at F i p js e (in_behind F x js h))
  where
    by_test : (b : Bool) → (x == i) ≡ b → 0 < (if b then 1 else 0) + times i js → (0 < times i js → slice_get (chosen F js) (place_of i js) ≡ Some p)
        → slice_get (chosen F (x ∷ js)) (if b then 0 else suc (place_of i js)) ≡ Some p
    by_test true z n r = ap (λ (o : Option (List Step)). slice_get (cons_option o (chosen F js)) 0) (ap (slice_get F) (eqb-true x i z) ∙ e)
    by_test false z n r =
        ap (λ (o : Option (List Step)). slice_get (cons_option o (chosen F js)) (suc (place_of i js))) (in_first F x js h).1 ∙ r (omega (arith, n))

chosen_from : (F : List (List Step)) (js : List ℕ) (a : ℕ) (p : List Step) → slice_get (chosen F js) a ≡ Some p → (i : ℕ) × (slice_get F i ≡ Some p)
chosen_from F [] a p e = absurd (cc)
chosen_from F (x ∷ js) a p e = by_item (slice_get F x) refl a e (λ b. chosen_from F js b p)
  where
    by_item : (o : Option (List Step)) → slice_get F x ≡ o → (a : ℕ) → slice_get (cons_option o (chosen F js)) a ≡ Some p
        → ((b : ℕ) → slice_get (chosen F js) b ≡ Some p → (i : ℕ) × (slice_get F i ≡ Some p)) → (i : ℕ) × (slice_get F i ≡ Some p)
    by_item None z a e r = r a e
    by_item (Some q) z zero e r = (x, z ∙ e)
    by_item (Some q) z (suc a) e r = r a e

same_turned : (p q : List Step) → same_path p q ≡ same_path q p
same_turned p q = by_tests (begins_with p q) (begins_with q p)
  where
    by_tests : (a b : Bool) → (a && b) ≡ (b && a)
    by_tests true true = refl
    by_tests true false = refl
    by_tests false true = refl
    by_tests false false = refl

not_same : (p q : List Step) → not (same_path p q) ≡ true → same_path p q ≡ false
not_same p q h = by_test (same_path p q) h
  where
    by_test : (b : Bool) → not b ≡ true → b ≡ false
    by_test true h = absurd (true≢false (sym h))
    by_test false h = refl

differs_at : (p : List Step) (F : List (List Step)) (k : ℕ) (q : List Step) → differs p F ≡ true → slice_get F k ≡ Some q → same_path p q ≡ false
differs_at p [] k q h e = absurd (cc)
differs_at p (x ∷ F) zero q h e = let s : x ≡ q = cc in ap (same_path p) (sym s) ∙ not_same p x (and_parts (not (same_path p x)) (differs p F) h).0
differs_at p (x ∷ F) (suc k) q h e = differs_at p F k q (and_parts (not (same_path p x)) (differs p F) h).1 e

differ_at : (F : List (List Step)) (j k : ℕ) (p q : List Step) → all_differ F ≡ true → slice_get F j ≡ Some p → slice_get F k ≡ Some q → (j ≡ k → ⊥)
    → same_path p q ≡ false
differ_at [] j k p q h e g n = absurd (cc)
differ_at (x ∷ F) zero zero p q h e g n = absurd (n refl)
differ_at (x ∷ F) zero (suc k) p q h e g n =
    let s : x ≡ p = cc in ap (λ (y : List Step). same_path y q) (sym s) ∙ differs_at x F k q (and_parts (differs x F) (all_differ F) h).0 g
differ_at (x ∷ F) (suc j) zero p q h e g n =
    let s : x ≡ q = cc in
    ap (same_path p) (sym s) ∙ (same_turned p x ∙ differs_at x F j p (and_parts (differs x F) (all_differ F) h).0 e)
differ_at (x ∷ F) (suc j) (suc k) p q h e g n =
    differ_at F j k p q (and_parts (differs x F) (all_differ F) h).1 e g (λ z. n (ap (λ (i : ℕ). suc i) z))

chosen_differs : (F : List (List Step)) → all_differ F ≡ true → (j : ℕ) (p : List Step) → slice_get F j ≡ Some p → (ks : List ℕ) → times j ks ≡ 0
    → differs p (chosen F ks) ≡ true
chosen_differs F d j p e [] h = refl
chosen_differs F d j p e (k ∷ ks) h =
    let a : ((j == k) ≡ false) × (times j ks ≡ 0) = not_first j k ks h in
    by_item (slice_get F k) refl a.0 (chosen_differs F d j p e ks a.1)
  where
    by_item : (o : Option (List Step)) → slice_get F k ≡ o → (j == k) ≡ false → differs p (chosen F ks) ≡ true
        → differs p (cons_option o (chosen F ks)) ≡ true
    by_item None z n r = r
    by_item (Some q) z n r = ap₂ (λ (a b : Bool). not a && b) (differ_at F j k p q d e z (λ x. true≢false (sym (eq-eqb j k x) ∙ n))) r

chosen_differ : (F : List (List Step)) → all_differ F ≡ true → (js : List ℕ) → AtMostOnce js → all_differ (chosen F js) ≡ true
chosen_differ F d [] h = refl
chosen_differ F d (x ∷ js) h = by_item (slice_get F x) refl (chosen_differ F d js (once_behind x js h))
  where
    by_item : (o : Option (List Step)) → slice_get F x ≡ o → all_differ (chosen F js) ≡ true → all_differ (cons_option o (chosen F js)) ≡ true
    by_item None z r = r
    by_item (Some p) z r = ap₂ (λ (a b : Bool). a && b) (chosen_differs F d x p z js (gone_behind x js h)) r

-- ---- the places of leaves in reading order

without_it : (i k : ℕ) (F : List (List Step)) → slice_get F i ≡ None → Without (k + i) (picks_from k F)
without_it i k [] e = tt
without_it zero k (q ∷ F) e = absurd (cc)
without_it (suc i) k (q ∷ F) e =
    let n : suc k + i ≡ k + suc i = omega arith in
    (ne_eqb k (k + suc i) (λ z. omega (arith, z)), subst (λ (x : ℕ). Without x (picks_from (suc k) F)) n (without_it i (suc k) F e))

module _ (fs : Fields) (F : List (List Step)) (h : list_all (is_leaf_path fs) F ≡ true) where
  leaf_at : (G : List (List Step)) (i : ℕ) (p : List Step) → list_all (is_leaf_path fs) G ≡ true → slice_get G i ≡ Some p → is_leaf_path fs p ≡ true
  leaf_at [] i p h e = absurd (cc)
  leaf_at (q ∷ G) zero p h e = let x : q ≡ p = cc in ap (is_leaf_path fs) (sym x) ∙ (and_parts (is_leaf_path fs q) (list_all (is_leaf_path fs) G) h).0
  leaf_at (q ∷ G) (suc i) p h e = leaf_at G i p (and_parts (is_leaf_path fs q) (list_all (is_leaf_path fs) G) h).1 e

  order : List ℕ
  order = reading_order fs F

  no_times : (i : ℕ) → slice_get F i ≡ None → times i (reading_order fs F) ≡ 0
  no_times i e =
      times_append i (near_order fs (picks F)) (far_order fs (picks F))
      ∙ none_in_both i fs (picks F) (subst (λ (x : ℕ). Without x (picks F)) (no_shift i) (without_it i 0 F e))
    where
      no_shift : (n : ℕ) → 0 + n ≡ n
      no_shift n = omega arith

  one_time : (i : ℕ) (p : List Step) → slice_get F i ≡ Some p → times i (reading_order fs F) ≡ 1
  one_time i p e = (orders_have_each_once fs F i p e (leaf_at F i p h e)).1

  at_most_once : AtMostOnce (reading_order fs F)
  at_most_once i = by_item (slice_get F i) refl
    where
      by_item : (o : Option (List Step)) → slice_get F i ≡ o → times i (reading_order fs F) ≤ 1
      by_item None e = omega (arith, no_times i e)
      by_item (Some p) e = omega (arith, one_time i p e)

  are_in : AreIn F (reading_order fs F)
  are_in i n = by_item (slice_get F i) refl
    where
      by_item : (o : Option (List Step)) → slice_get F i ≡ o → (p : List Step) × (slice_get F i ≡ Some p)
      by_item None e = absurd (omega (arith, n, no_times i e))
      by_item (Some p) e = (p, e)

  -- leaves that are put in reading order are in it
  module _ (d : all_differ F ≡ true) (g : list_all (is_leaf_path fs) (chosen F (reading_order fs F)) ≡ true) where
    alike : Alike (λ i. place_of i (reading_order fs F)) fs (picks F) (picks (chosen F (reading_order fs F)))
    alike k r p u = by_case (picked_or_not fs 0 F h (step k r ∷ p) u)
      where
        E : List (List Step)
        E = chosen F (reading_order fs F)

        nothing : (G : List Pick) → G ≡ [] → (i : ℕ) → indexes G ≡ i ∷ [] → ⊥
        nothing [] e i z = cc
        nothing (x ∷ G) e i z = cc

        by_other : picks_at (step k r ∷ p) (picks F) ≡ []
            → (picks_at (step k r ∷ p) (picks (chosen F (reading_order fs F))) ≡ []) ⊎
            ((i : ℕ) × (slice_get (chosen F (reading_order fs F)) i ≡ Some (step k r ∷ p)))
            → map (λ i. place_of i (reading_order fs F)) (indexes (picks_at p (below k (picks F))))
            ≡ indexes (picks_at p (below k (picks (chosen F (reading_order fs F)))))
        by_other e (inl z) =
            ap (λ (G : List Pick). map (λ i. place_of i (reading_order fs F)) (indexes G)) e ∙ ap (λ (G : List Pick). indexes G) (sym z)
        by_other e (inr z) =
            let x : (i : ℕ) × (slice_get F i ≡ Some (step k r ∷ p)) = chosen_from F (reading_order fs F) z.0 (step k r ∷ p) z.1 in
            absurd (nothing (picks_at p (below k (picks F))) e x.0 (picked fs F h d x.0 (step k r ∷ p) x.1 u))

        by_case : (picks_at (step k r ∷ p) (picks F) ≡ []) ⊎ ((i : ℕ) × (slice_get F i ≡ Some (step k r ∷ p)))
            → map (λ i. place_of i (reading_order fs F)) (indexes (picks_at p (below k (picks F))))
            ≡ indexes (picks_at p (below k (picks (chosen F (reading_order fs F)))))
        by_case (inl e) = by_other e (picked_or_not fs 0 (chosen F (reading_order fs F)) g (step k r ∷ p) u)
        by_case (inr e) =
            let n : 0 < times e.0 (reading_order fs F) = omega (arith, one_time e.0 (step k r ∷ p) e.1) in
            ap (map (λ i. place_of i (reading_order fs F))) (picked fs F h d e.0 (step k r ∷ p) e.1 u)
            ∙ sym (picked fs (chosen F (reading_order fs F)) g (chosen_differ F d (reading_order fs F) at_most_once)
            (place_of e.0 (reading_order fs F)) (step k r ∷ p) (chosen_at F e.0 (step k r ∷ p) (reading_order fs F) e.1 are_in n) u)

    pub ordered : reading_order fs (chosen F (reading_order fs F)) ≡ counting 0 (length (chosen F (reading_order fs F)))
    ordered =
        sym (order_alike (λ i. place_of i (reading_order fs F)) fs F (chosen F (reading_order fs F)) alike)
        ∙ (numbered (reading_order fs F) at_most_once ∙ ap (counting 0) (sym (chosen_length F (reading_order fs F) are_in)))

    pub ordered_differ : all_differ (chosen F (reading_order fs F)) ≡ true
    ordered_differ = chosen_differ F d (reading_order fs F) at_most_once

-- ---- the leaves of a schema differ

differs_append : (p : List Step) (A B : List (List Step)) → differs p A ≡ true → differs p B ≡ true → differs p (A ++ B) ≡ true
differs_append p [] B h g = g
differs_append p (q ∷ A) B h g =
    let a : (not (same_path p q) ≡ true) × (differs p A ≡ true) = and_parts (not (same_path p q)) (differs p A) h in
    ap₂ (λ (x y : Bool). x && y) a.0 (differs_append p A B a.1 g)

-- below one field
field_differs : (n : List ℕ) (s : Step) (p : List Step) (ls : List Leaf)
    → differs (s ∷ p) (paths_of_leaves (map (leaf_below n s) ls)) ≡ differs p (paths_of_leaves ls)
field_differs n s p [] = refl
field_differs n s p (l ∷ ls) =
    ap₂ (λ (a b : Bool). not ((a && begins_with p l.path) && (a && begins_with l.path p)) && b) (eq-eqb s.place s.place refl) (field_differs n s p ls)

-- below different ones
other_differs : (n : List ℕ) (s t : Step) (p : List Step) (ls : List Leaf) → (s.place ≡ t.place → ⊥)
    → differs (s ∷ p) (paths_of_leaves (map (leaf_below n t) ls)) ≡ true
other_differs n s t p [] h = refl
other_differs n s t p (l ∷ ls) h =
    ap₂ (λ (a b : Bool). not ((a && begins_with p l.path) && begins_with (t ∷ l.path) (s ∷ p)) && b) (ne_eqb s.place t.place h)
    (other_differs n s t p ls h)

paths_append : (ls ms : List Leaf) → paths_of_leaves (ls ++ ms) ≡ paths_of_leaves ls ++ paths_of_leaves ms
paths_append [] ms = refl
paths_append (l ∷ ls) ms = ap (λ (F : List (List Step)). l.path ∷ F) (paths_append ls ms)

later_differs : (s : Step) (p : List Step) (fs : Fields) (j : ℕ) → s.place < j → differs (s ∷ p) (paths_of_leaves (leaves_from fs j)) ≡ true
later_differs s p no_fields j h = refl
later_differs s p (field n r c fs) j h =
    ap (differs (s ∷ p)) (paths_append (map (leaf_below n (step j r)) (shape_leaves c)) (leaves_from fs (suc j)))
    ∙ differs_append (s ∷ p) (paths_of_leaves (map (leaf_below n (step j r)) (shape_leaves c))) (paths_of_leaves (leaves_from fs (suc j)))
    (other_differs n s (step j r) p (shape_leaves c) (λ e. omega (arith, e, h)))
    (later_differs s p fs (suc j) (omega (arith, h)))

first_differ : (n : List ℕ) (i : ℕ) (r : Repetition) (fs : Fields) (ls : List Leaf) → all_differ (paths_of_leaves ls) ≡ true
    → all_differ (paths_of_leaves (leaves_from fs (suc i))) ≡ true
    → all_differ (paths_of_leaves (map (leaf_below n (step i r)) ls ++ leaves_from fs (suc i))) ≡ true
first_differ n i r fs [] h g = g
first_differ n i r fs (l ∷ ls) h g =
    let a : (differs l.path (paths_of_leaves ls) ≡ true) × (all_differ (paths_of_leaves ls) ≡ true) =
    and_parts (differs l.path (paths_of_leaves ls)) (all_differ (paths_of_leaves ls)) h in
    ap₂ (λ (x y : Bool). x && y)
    (ap (differs (step i r ∷ l.path)) (paths_append (map (leaf_below n (step i r)) ls) (leaves_from fs (suc i)))
    ∙ differs_append (step i r ∷ l.path) (paths_of_leaves (map (leaf_below n (step i r)) ls)) (paths_of_leaves (leaves_from fs (suc i)))
    (field_differs n (step i r) l.path ls ∙ a.0) (later_differs (step i r) l.path fs (suc i) (omega arith)))
    (first_differ n i r fs ls a.1 g)

mutual
  fields_differ : (fs : Fields) (i : ℕ) → all_differ (paths_of_leaves (leaves_from fs i)) ≡ true
  fields_differ no_fields i = refl
  fields_differ (field n r c fs) i = first_differ n i r fs (shape_leaves c) (shape_differ c) (fields_differ fs (suc i))

  shape_differ : (c : Shape) → all_differ (paths_of_leaves (shape_leaves c)) ≡ true
  shape_differ (leaf k) = refl
  shape_differ (group fs) = fields_differ fs 0

-- so do those of them that pass a test
filter_differs : (f : Leaf → Bool) (p : List Step) (ls : List Leaf) → differs p (paths_of_leaves ls) ≡ true
    → differs p (paths_of_leaves (filter f ls)) ≡ true
filter_differs f p [] h = refl
filter_differs f p (l ∷ ls) h =
    let a : (not (same_path p l.path) ≡ true) × (differs p (paths_of_leaves ls) ≡ true) =
    and_parts (not (same_path p l.path)) (differs p (paths_of_leaves ls)) h in
    by_test (f l) a.0 (filter_differs f p ls a.1)
  where
    by_test : (b : Bool) → not (same_path p l.path) ≡ true → differs p (paths_of_leaves (filter f ls)) ≡ true
        → differs p (paths_of_leaves (cond b (l ∷ filter f ls) (filter f ls))) ≡ true
    by_test true e r = ap₂ (λ (x y : Bool). x && y) e r
    by_test false e r = r

filter_differ : (f : Leaf → Bool) (ls : List Leaf) → all_differ (paths_of_leaves ls) ≡ true → all_differ (paths_of_leaves (filter f ls)) ≡ true
filter_differ f [] h = refl
filter_differ f (l ∷ ls) h =
    let a : (differs l.path (paths_of_leaves ls) ≡ true) × (all_differ (paths_of_leaves ls) ≡ true) =
    and_parts (differs l.path (paths_of_leaves ls)) (all_differ (paths_of_leaves ls)) h in
    by_test (f l) (filter_differs f l.path ls a.0) (filter_differ f ls a.1)
  where
    by_test : (b : Bool) → differs l.path (paths_of_leaves (filter f ls)) ≡ true → all_differ (paths_of_leaves (filter f ls)) ≡ true
        → all_differ (paths_of_leaves (cond b (l ∷ filter f ls) (filter f ls))) ≡ true
    by_test true e r = ap₂ (λ (x y : Bool). x && y) e r
    by_test false e r = r

-- ---- the leaves of a query

abbrev path_of : Leaf → List Step
path_of l = l.path

got : (ls : List Leaf) (j : ℕ) → slice_get (paths_of_leaves ls) j ≡ option_map path_of (slice_get ls j)
got [] j = refl
got (l ∷ ls) zero = refl
got (l ∷ ls) (suc j) = got ls j

-- the paths of what is chosen are chosen of the paths
chosen_paths : (ls : List Leaf) (js : List ℕ) → paths_of_leaves (filter_map (slice_get ls) js) ≡ chosen (paths_of_leaves ls) js
chosen_paths ls [] = refl
chosen_paths ls (j ∷ js) = by_item (slice_get ls j) (got ls j) (chosen_paths ls js)
  where
    by_item : (o : Option Leaf) → slice_get (paths_of_leaves ls) j ≡ option_map path_of o
        → paths_of_leaves (filter_map (slice_get ls) js) ≡ chosen (paths_of_leaves ls) js
        → paths_of_leaves (cons_option o (filter_map (slice_get ls) js))
        ≡ cons_option (slice_get (paths_of_leaves ls) j) (chosen (paths_of_leaves ls) js)
    by_item None e r = r ∙ ap (λ (x : Option (List Step)). cons_option x (chosen (paths_of_leaves ls) js)) (sym e)
    by_item (Some l) e r =
        ap (λ (F : List (List Step)). l.path ∷ F) r ∙ ap (λ (x : Option (List Step)). cons_option x (chosen (paths_of_leaves ls) js)) (sym e)

all_paths : (fs : Fields) (ls : List Leaf) → list_all (λ (l : Leaf). is_leaf_path fs l.path) ls ≡ list_all (is_leaf_path fs) (paths_of_leaves ls)
all_paths fs [] = refl
all_paths fs (l ∷ ls) = ap (λ (b : Bool). is_leaf_path fs l.path && b) (all_paths fs ls)

-- each leaf of a schema has a leaf's path
mutual
  kind_path : (fs : Fields) (i : ℕ) (r : Repetition) (p : List Step) (k : Kind) → leaf_kind fs (step i r ∷ p) ≡ Some k
      → is_leaf_path fs (step i r ∷ p) ≡ true
  kind_path no_fields i r p k h = absurd (cc)
  kind_path (field n q s fs) zero r p k h =
      let g : (same_repetition r q ≡ true) × (shape_kind s p ≡ Some k) = kind_if_some (same_repetition r q) (shape_kind s p) k h in
      ap₂ (λ (a b : Bool). a && b) g.0 (kind_shape_path s p k g.1)
  kind_path (field n q s fs) (suc i) r p k h = kind_path fs i r p k h

  kind_shape_path : (s : Shape) (p : List Step) (k : Kind) → shape_kind s p ≡ Some k → is_shape_path s p ≡ true
  kind_shape_path (leaf j) [] k h = refl
  kind_shape_path (leaf j) (t ∷ p) k h = absurd (cc)
  kind_shape_path (group no_fields) [] k h = absurd (cc)
  kind_shape_path (group (field n q s fs)) [] k h = absurd (cc)
  kind_shape_path (group fs) (t ∷ p) k h = kind_path fs t.place t.repetition p k h

filtered_paths : (fs : Fields) (f : Leaf → Bool) (ls : List Leaf) → ((i : ℕ) (l : Leaf) → slice_get ls i ≡ Some l → is_leaf_path fs l.path ≡ true)
    → list_all (is_leaf_path fs) (paths_of_leaves (filter f ls)) ≡ true
filtered_paths fs f [] h = refl
filtered_paths fs f (l ∷ ls) h = by_test (f l) (h 0 l refl) (filtered_paths fs f ls (λ i m e. h (suc i) m e))
  where
    by_test : (b : Bool) → is_leaf_path fs l.path ≡ true → list_all (is_leaf_path fs) (paths_of_leaves (filter f ls)) ≡ true
        → list_all (is_leaf_path fs) (paths_of_leaves (cond b (l ∷ filter f ls) (filter f ls))) ≡ true
    by_test true e r = ap₂ (λ (x y : Bool). x && y) e r
    by_test false e r = r

pub query_leaves_in_order : QueryLeavesInOrder
unfolding query_leaves
query_leaves_in_order fs q =
    let f : Leaf → Bool = λ (l : Leaf). list_any (same_path l.path) (used_paths q) in
    let P : List (List Step) = paths_of_leaves (filter f (leaves fs)) in
    let h : list_all (is_leaf_path fs) P ≡ true =
    filtered_paths fs f (leaves fs) (λ i l e. kind_shape_path (group fs) l.path l.kind (kind_of_leaf fs i l e)) in
    let d : all_differ P ≡ true = filter_differ f (leaves fs) (fields_differ fs 0) in
    let e : paths_of_leaves (in_reading_order fs (filter f (leaves fs))) ≡ chosen P (reading_order fs P) =
    chosen_paths (filter f (leaves fs)) (reading_order fs P) in
    let a : list_all (is_leaf_path fs) (paths_of_leaves (in_reading_order fs (filter f (leaves fs)))) ≡ true =
    sym (all_paths fs (in_reading_order fs (filter f (leaves fs)))) ∙ query_leaves_are_leaves fs q in
    let g : list_all (is_leaf_path fs) (chosen P (reading_order fs P)) ≡ true = ap (list_all (is_leaf_path fs)) (sym e) ∙ a in
    subst (λ (F : List (List Step)). (list_all (is_leaf_path fs) F ≡ true) × AreInReadingOrder fs F × (all_differ F ≡ true)) (sym e)
    (g, (ordered fs P h d g, λ i p z. leaf_at fs P h (chosen P (reading_order fs P)) i p g z), ordered_differ fs P h d g)
