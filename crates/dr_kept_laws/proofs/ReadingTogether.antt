-- Leaves in reading order whose chains begin with one another are read together.
use Rattle.std.proofs.Common.{◌≡◌, ◌⊎◌, inl, inr, ℕ, zero, suc, ◌+◌, ◌<◌, ◌≤◌, List, [], ◌∷◌, ◌++◌, length, Bool, true, false, ◌&&◌, Some, refl, sym, ap, ap₂, subst, ◌∙◌, append_assoc, true≢false, arith}
use Rattle.std.specs.Prelude.{map, not, ◌==◌, if◌then◌else◌}
use Rattle.std.specs.List.{slice_get}
use Rattle.std.proofs.lemmas.Bool.{and_parts, eq-eqb, ne_eqb, eqb-true}
use Rattle.dr_meaning.specs.Schema.{Repetition, required, optional, repeated, Fields, no_fields, field, Shape, leaf, group, repetition_count, is_repeated}
use Rattle.dr_meaning.specs.Path.{Step, chain, same_path, begins_with, is_leaf_path, is_shape_path, same_repetition, max_repetition}
use Rattle.dr_meaning.specs.Automaton.{Pick, picks, first_picks, later_picks, indexes, unless_repeated, where_repeated, near_order, far_order, shape_near_order, shape_far_order, reading_order, counting}
use Rattle.dr_meaning.specs.OrderLaws.{times}
use Rattle.dr_meaning.specs.Walk.{is_chain_front}
use Rattle.dr_meaning.proofs.ProjectionLemmas.{step}
use Rattle.dr_meaning.proofs.Blocks.{same_repetition-true}
use Rattle.dr_meaning.proofs.NestingLemmas.{same_itself}
use Rattle.dr_meaning.proofs.OrderLemmas.{times_append, none_in_both, none_of_both, once_of_both}
use Rattle.dr_meaning.proofs.WalkLemmas.{Only, Without, only_behind, only_beside, beside_first, behind_later}
use Rattle.dr_moves.specs.Selection.{differs, all_differ}
use Rattle.dr_kept_laws.specs.TogetherLaws.{ReadTogether}
use Rattle.dr_kept_laws.proofs.Selections.{selected_only, no_path}
use Rattle.dr_kept_laws.proofs.FreshEnds.{Before}
use Rattle.dr_moves.specs.Together.{Together, same_leaf, along, apart}

-- ---- which of two comes first

-- the first of the two that comes is k
abbrev earlier : ℕ → ℕ → List ℕ → Bool
earlier k i [] = false
earlier k i (x ∷ xs) = if x == k then true else if x == i then false else earlier k i xs

not_first : (i x : ℕ) (xs : List ℕ) → times i (x ∷ xs) ≡ 0 → ((x == i) ≡ false) × (times i xs ≡ 0)
not_first i x xs h = by_test (x == i) h
  where
    by_test : (b : Bool) → (if b then 1 else 0) + times i xs ≡ 0 → (b ≡ false) × (times i xs ≡ 0)
    by_test true h = absurd (omega (arith, h))
    by_test false h = (refl, omega (arith, h))

-- neither comes in B
without_part : (k i : ℕ) (A B X : List ℕ) → times k B ≡ 0 → times i B ≡ 0 → earlier k i (A ++ (B ++ X)) ≡ earlier k i (A ++ X)
without_part k i [] [] X h g = refl
without_part k i [] (x ∷ B) X h g =
    let p : ((x == k) ≡ false) × (times k B ≡ 0) = not_first k x B h in
    let q : ((x == i) ≡ false) × (times i B ≡ 0) = not_first i x B g in
    ap₂ (λ (a b : Bool). if a then true else if b then false else earlier k i (B ++ X)) p.0 q.0 ∙ without_part k i [] B X p.1 q.1
without_part k i (a ∷ A) B X h g = ap (λ (y : Bool). if a == k then true else if a == i then false else y) (without_part k i A B X h g)

-- k doesn't come
never_earlier : (k i : ℕ) (X : List ℕ) → times k X ≡ 0 → earlier k i X ≡ false
never_earlier k i [] h = refl
never_earlier k i (x ∷ X) h =
    let p : ((x == k) ≡ false) × (times k X ≡ 0) = not_first k x X h in
    ap₂ (λ (a b : Bool). if a then true else if x == i then false else b) p.0 (never_earlier k i X p.1) ∙ by_test (x == i)
  where
    by_test : (b : Bool) → (if b then false else false) ≡ false
    by_test true = refl
    by_test false = refl

-- it doesn't come behind A
front_earlier : (k i : ℕ) (A X : List ℕ) → times k X ≡ 0 → earlier k i (A ++ X) ≡ true → earlier k i A ≡ true
front_earlier k i [] X h e = absurd (true≢false (sym e ∙ never_earlier k i X h))
front_earlier k i (a ∷ A) X h e = by_test (a == k) (a == i) e (front_earlier k i A X h)
  where
    by_test : (b c : Bool) → (if b then true else if c then false else earlier k i (A ++ X)) ≡ true → (earlier k i (A ++ X) ≡ true → earlier k i A ≡ true) → (if b then true else if c then false else earlier k i A) ≡ true
    by_test true c e f = refl
    by_test false true e f = e
    by_test false false e f = f e

-- the other comes in A, and k doesn't
other_first : (k i : ℕ) (A X : List ℕ) → times k A ≡ 0 → 0 < times i A → earlier k i (A ++ X) ≡ false
other_first k i [] X h g = absurd (omega (arith, g))
other_first k i (a ∷ A) X h g =
    let p : ((a == k) ≡ false) × (times k A ≡ 0) = not_first k a A h in
    ap (λ (x : Bool). if x then true else if a == i then false else earlier k i (A ++ X)) p.0 ∙ by_test (a == i) g (other_first k i A X p.1)
  where
    by_test : (b : Bool) → 0 < (if b then 1 else 0) + times i A → (0 < times i A → earlier k i (A ++ X) ≡ false) → (if b then false else earlier k i (A ++ X)) ≡ false
    by_test true g f = refl
    by_test false g f = f (omega (arith, g))

counting_earlier : (k i a n : ℕ) → a ≤ k → k ≤ i → k < a + n → earlier k i (counting a n) ≡ true
counting_earlier k i a zero h g l = absurd (omega (arith, h, l))
counting_earlier k i a (suc n) h g l = by_test (a == k) refl (λ o. counting_earlier k i (suc a) n o g (omega (arith, l)))
  where
    by_test : (b : Bool) → (a == k) ≡ b → (suc a ≤ k → earlier k i (counting (suc a) n) ≡ true) → (if b then true else if a == i then false else earlier k i (counting (suc a) n)) ≡ true
    by_test true e f = refl
    by_test false e f =
        let m : (a ≡ k → ⊥) = λ q. true≢false (sym (eq-eqb a k q) ∙ e) in
        let o : suc a ≤ k = omega (arith, h, m) in
        ap (λ (x : Bool). if x then false else earlier k i (counting (suc a) n)) (ne_eqb a i (λ q. omega (arith, q, o, g))) ∙ f o

-- ---- chains

chain_none : (p : List Step) → chain p ≡ [] → max_repetition p ≡ 0
chain_none [] h = refl
chain_none (s ∷ p) h = by_repetition_of s.repetition h (chain_none p)
  where
    by_below : (C : List (List Step)) → map (λ (q : List Step). s ∷ q) C ≡ [] → C ≡ []
    by_below [] e = refl
    by_below (c ∷ C) e = absurd (cc)

    by_repetition_of : (r : Repetition) → (if is_repeated r then (s ∷ []) ∷ map (λ q. s ∷ q) (chain p) else map (λ q. s ∷ q) (chain p)) ≡ [] → (chain p ≡ [] → max_repetition p ≡ 0) → repetition_count r + max_repetition p ≡ 0
    by_repetition_of required h f = let x : max_repetition p ≡ 0 = f (by_below (chain p) h) in omega (arith, x)
    by_repetition_of optional h f = let x : max_repetition p ≡ 0 = f (by_below (chain p) h) in omega (arith, x)
    by_repetition_of repeated h f = absurd (cc)

-- the chain of a path through a field, by that of the rest
abbrev headed : Step → Repetition → List (List Step) → List (List Step)
headed s r C = if is_repeated r then (s ∷ []) ∷ map (λ (q : List Step). s ∷ q) C else map (λ (q : List Step). s ∷ q) C

-- a path through one field isn't one through another
other_paths : (s t : Step) (c d : List Step) → (s.place == t.place) ≡ false → same_path (s ∷ c) (t ∷ d) ≡ false
other_paths s t c d h = ap (λ (b : Bool). (b && begins_with c d) && begins_with (t ∷ d) (s ∷ c)) h

-- nor is a chain of such paths the first part of one of the others
other_front : (s t : Step) (e : Repetition) (c : List Step) (X D : List (List Step)) → (s.place == t.place) ≡ false → is_chain_front ((s ∷ c) ∷ X) (headed t e D) ≡ false
other_front s t e c X D h = by_repetition_of e D
  where
    first : (d : List Step) (Y : List (List Step)) → is_chain_front ((s ∷ c) ∷ X) ((t ∷ d) ∷ Y) ≡ false
    first d Y = ap (λ (b : Bool). b && is_chain_front X Y) (other_paths s t c d h)

    below : (D : List (List Step)) → is_chain_front ((s ∷ c) ∷ X) (map (λ (q : List Step). t ∷ q) D) ≡ false
    below [] = refl
    below (d ∷ D) = first d (map (λ (q : List Step). t ∷ q) D)

    by_repetition_of : (e : Repetition) (D : List (List Step)) → is_chain_front ((s ∷ c) ∷ X) (headed t e D) ≡ false
    by_repetition_of required D = below D
    by_repetition_of optional D = below D
    by_repetition_of repeated D = first [] (map (λ (q : List Step). t ∷ q) D)

-- through different fields nothing repeated is on the first
pub apart_chain : (s t : Step) (q p : List Step) → (s.place == t.place) ≡ false → is_chain_front (chain (s ∷ q)) (chain (t ∷ p)) ≡ true → max_repetition (s ∷ q) ≡ 0
apart_chain s t q p h g = by_repetition_of s.repetition (chain q) (chain_none q) g
  where
    below : (C : List (List Step)) (m : ℕ) → (C ≡ [] → m ≡ 0) → is_chain_front (map (λ (x : List Step). s ∷ x) C) (headed t t.repetition (chain p)) ≡ true → m ≡ 0
    below [] m f g = f refl
    below (c ∷ C) m f g = absurd (true≢false (sym g ∙ other_front s t t.repetition c (map (λ (x : List Step). s ∷ x) C) (chain p) h))

    by_repetition_of : (r : Repetition) (C : List (List Step)) → (C ≡ [] → max_repetition q ≡ 0) → is_chain_front (headed s r C) (headed t t.repetition (chain p)) ≡ true → repetition_count r + max_repetition q ≡ 0
    by_repetition_of required C f g = let x : max_repetition q ≡ 0 = below C (max_repetition q) f g in omega (arith, x)
    by_repetition_of optional C f g = let x : max_repetition q ≡ 0 = below C (max_repetition q) f g in omega (arith, x)
    by_repetition_of repeated C f g = absurd (true≢false (sym g ∙ other_front s t t.repetition [] (map (λ (x : List Step). s ∷ x) C) (chain p) h))

-- only whether two fields are the same matters
same_fronts : (s t u v : Step) → (s.place == t.place) ≡ (u.place == v.place) → (t.place == s.place) ≡ (v.place == u.place) → (C D : List (List Step))
    → is_chain_front (map (λ (x : List Step). s ∷ x) C) (map (λ (x : List Step). t ∷ x) D) ≡ is_chain_front (map (λ (x : List Step). u ∷ x) C) (map (λ (x : List Step). v ∷ x) D)
same_fronts s t u v h g [] D = refl
same_fronts s t u v h g (c ∷ C) [] = refl
same_fronts s t u v h g (c ∷ C) (d ∷ D) =
    ap₂ (λ (a b : Bool). ((a && begins_with c d) && (b && begins_with d c)) && is_chain_front (map (λ (x : List Step). s ∷ x) C) (map (λ (x : List Step). t ∷ x) D)) h g
    ∙ ap (λ (x : Bool). same_path (u ∷ c) (v ∷ d) && x) (same_fronts s t u v h g C D)

same_chains : (s t u v : Step) (c e : Repetition) → (s.place == t.place) ≡ (u.place == v.place) → (t.place == s.place) ≡ (v.place == u.place) → (C D : List (List Step)) → is_chain_front (headed s c C) (headed t e D) ≡ is_chain_front (headed u c C) (headed v e D)
same_chains s t u v c e h g C D = by_both (is_repeated c) (is_repeated e)
  where
    by_both : (a b : Bool) → is_chain_front (if a then (s ∷ []) ∷ map (λ (q : List Step). s ∷ q) C else map (λ (q : List Step). s ∷ q) C) (if b then (t ∷ []) ∷ map (λ (q : List Step). t ∷ q) D else map (λ (q : List Step). t ∷ q) D)
        ≡ is_chain_front (if a then (u ∷ []) ∷ map (λ (q : List Step). u ∷ q) C else map (λ (q : List Step). u ∷ q) C) (if b then (v ∷ []) ∷ map (λ (q : List Step). v ∷ q) D else map (λ (q : List Step). v ∷ q) D)
    by_both true true = same_fronts s t u v h g ([] ∷ C) ([] ∷ D)
    by_both true false = same_fronts s t u v h g ([] ∷ C) D
    by_both false true = same_fronts s t u v h g C ([] ∷ D)
    by_both false false = same_fronts s t u v h g C D

-- through the same field
pub below_chain : (s : Step) (q p : List Step) → is_chain_front (chain (s ∷ q)) (chain (s ∷ p)) ≡ true → is_chain_front (chain q) (chain p) ≡ true
below_chain s q p h = by_repetition_of s.repetition h
  where
    all_below : (C D : List (List Step)) → is_chain_front (map (λ (x : List Step). s ∷ x) C) (map (λ (x : List Step). s ∷ x) D) ≡ is_chain_front C D
    all_below [] D = refl
    all_below (c ∷ C) [] = refl
    all_below (c ∷ C) (d ∷ D) = ap₂ (λ (a b : Bool). ((a && begins_with c d) && (a && begins_with d c)) && b) (eq-eqb s.place s.place refl) (all_below C D)

    by_repetition_of : (r : Repetition) → is_chain_front (headed s r (chain q)) (headed s r (chain p)) ≡ true → is_chain_front (chain q) (chain p) ≡ true
    by_repetition_of required h = sym (all_below (chain q) (chain p)) ∙ h
    by_repetition_of optional h = sym (all_below (chain q) (chain p)) ∙ h
    by_repetition_of repeated h = sym (all_below (chain q) (chain p)) ∙ (and_parts (same_path (s ∷ []) (s ∷ [])) _ h).1

-- ---- leaves of a level come before those below its repeated fields

abbrev ShapeNear : ℕ → List Step → Shape → Type 0
ShapeNear i p s = (G : List Pick) → Only i p G → is_shape_path s p ≡ true → max_repetition p ≡ 0 → 0 < times i (shape_near_order s G)

abbrev FieldsNear : ℕ → List Step → Repetition → Fields → Type 0
FieldsNear i p e fs = (j : ℕ) (G : List Pick) → Only i (step j e ∷ p) G → is_leaf_path fs (step j e ∷ p) ≡ true → max_repetition (step j e ∷ p) ≡ 0 → 0 < times i (near_order fs G)

-- in the first field
near_here : (i : ℕ) (p : List Step) (r : Repetition) (s : Shape) → ShapeNear i p s → (G : List Pick) → Only i p G → is_shape_path s p ≡ true → repetition_count r + max_repetition p ≡ 0 → 0 < times i (unless_repeated r (shape_near_order s G))
near_here i p required s f G o u z = f G o u (omega (arith, z))
near_here i p optional s f G o u z = f G o u (omega (arith, z))
near_here i p repeated s f G o u z = absurd (omega (arith, z))

through_near : (i : ℕ) (m : List ℕ) (r : Repetition) (s : Shape) (fs : Fields) (p : List Step) (e : Repetition) → ShapeNear i p s → FieldsNear i p e fs → FieldsNear i p e (field m r s fs)
through_near i m r s fs p e f g zero G o u z =
    let w : (same_repetition e r ≡ true) × (is_shape_path s p ≡ true) = and_parts _ _ u in
    let x : repetition_count r + max_repetition p ≡ 0 = subst (λ (y : Repetition). repetition_count y + max_repetition p ≡ 0) (same_repetition-true e r w.0) z in
    let y : 0 < times i (unless_repeated r (shape_near_order s (first_picks G))) = near_here i p r s f (first_picks G) (only_behind i e p G o) w.1 x in
    omega (arith, y, times_append i (unless_repeated r (shape_near_order s (first_picks G))) (near_order fs (later_picks G)))
through_near i m r s fs p e f g (suc j) G o u z =
    let y : 0 < times i (near_order fs (later_picks G)) = g j (later_picks G) (only_beside i j e p G o) u z in
    omega (arith, y, times_append i (unless_repeated r (shape_near_order s (first_picks G))) (near_order fs (later_picks G)))

mutual
  fields_near : (i : ℕ) (fs : Fields) (p : List Step) (e : Repetition) → FieldsNear i p e fs
  fields_near i no_fields p e j G o u z = absurd (true≢false (sym u))
  fields_near i (field m r s fs) p e j G o u z = through_near i m r s fs p e (λ G o u z. shape_near i s p G o u z) (λ j G o u z. fields_near i fs p e j G o u z) j G o u z

  shape_near : (i : ℕ) (s : Shape) (p : List Step) → ShapeNear i p s
  shape_near i (leaf k) [] G o u z = let x : times i (indexes G) + 0 ≡ 1 = once_of_both i (leaf k) [] G o u in omega (arith, x)
  shape_near i (leaf k) (t ∷ p) G o u z = absurd (true≢false (sym u))
  shape_near i (group no_fields) [] G o u z = absurd (true≢false (sym u))
  shape_near i (group (field m r s fs)) [] G o u z = absurd (true≢false (sym u))
  shape_near i (group fs) (t ∷ p) G o u z = fields_near i fs p t.repetition t.place G o u z

-- ---- all of it

abbrev ShapeTogether : ℕ → ℕ → List Step → List Step → Shape → Type 0
ShapeTogether k i q p s = (G : List Pick) → Only k q G → Only i p G → is_shape_path s q ≡ true → is_shape_path s p ≡ true → (q ≡ p → k ≡ i) → is_chain_front (chain q) (chain p) ≡ true
    → earlier k i (shape_near_order s G ++ shape_far_order s G) ≡ true → Together (k ≡ i) (Unit {0}) q p

abbrev FieldsTogether : ℕ → ℕ → List Step → List Step → Repetition → Repetition → Fields → Type 0
FieldsTogether k i q p c e fs = (a b : ℕ) (G : List Pick) → Only k (step a c ∷ q) G → Only i (step b e ∷ p) G → is_leaf_path fs (step a c ∷ q) ≡ true → is_leaf_path fs (step b e ∷ p) ≡ true
    → (step a c ∷ q ≡ step b e ∷ p → k ≡ i) → is_chain_front (chain (step a c ∷ q)) (chain (step b e ∷ p)) ≡ true → earlier k i (near_order fs G ++ far_order fs G) ≡ true → Before (k ≡ i) q p (step a c) (step b e)

both_none : (x : ℕ) (A B : List ℕ) → times x A + times x B ≡ 0 → (times x A ≡ 0) × (times x B ≡ 0)
both_none x A B h = (omega (arith, h), omega (arith, h))

shape_none : (x : ℕ) (r : Repetition) (s : Shape) (G : List Pick) → Without x G → (times x (unless_repeated r (shape_near_order s G)) ≡ 0) × (times x (where_repeated r (shape_near_order s G) ++ shape_far_order s G) ≡ 0)
shape_none x r s G w =
    let h : (times x (shape_near_order s G) ≡ 0) × (times x (shape_far_order s G) ≡ 0) = both_none x (shape_near_order s G) (shape_far_order s G) (none_of_both x s G w) in
    by_repetition_of r h.0 h.1
  where
    by_repetition_of : (r : Repetition) → times x (shape_near_order s G) ≡ 0 → times x (shape_far_order s G) ≡ 0 → (times x (unless_repeated r (shape_near_order s G)) ≡ 0) × (times x (where_repeated r (shape_near_order s G) ++ shape_far_order s G) ≡ 0)
    by_repetition_of required h g = (h, g)
    by_repetition_of optional h g = (h, g)
    by_repetition_of repeated h g = (refl, omega (arith, times_append x (shape_near_order s G) (shape_far_order s G), h, g))

suc_same : (a b : ℕ) → (suc a == suc b) ≡ (a == b)
suc_same a b = by_test (a == b) refl
  where
    by_test : (v : Bool) → (a == b) ≡ v → (suc a == suc b) ≡ v
    by_test true e = eq-eqb (suc a) (suc b) (ap suc (eqb-true a b e))
    by_test false e = ne_eqb (suc a) (suc b) (λ q. true≢false (sym (eq-eqb a b (omega (arith, q))) ∙ e))

-- both through the first field
first_earlier : (k i : ℕ) (r : Repetition) (s : Shape) (fs : Fields) (G : List Pick) → Without k (later_picks G) → Without i (later_picks G)
    → earlier k i ((unless_repeated r (shape_near_order s (first_picks G)) ++ near_order fs (later_picks G)) ++ ((where_repeated r (shape_near_order s (first_picks G)) ++ shape_far_order s (first_picks G)) ++ far_order fs (later_picks G))) ≡ true
    → earlier k i (shape_near_order s (first_picks G) ++ shape_far_order s (first_picks G)) ≡ true
first_earlier k i r s fs G wk wi h =
    let A = unless_repeated r (shape_near_order s (first_picks G)) in
    let B = near_order fs (later_picks G) in
    let C = where_repeated r (shape_near_order s (first_picks G)) ++ shape_far_order s (first_picks G) in
    let D = far_order fs (later_picks G) in
    let nk : (times k B ≡ 0) × (times k D ≡ 0) = both_none k B D (none_in_both k fs (later_picks G) wk) in
    let ni : (times i B ≡ 0) × (times i D ≡ 0) = both_none i B D (none_in_both i fs (later_picks G) wi) in
    let x : earlier k i (A ++ (C ++ D)) ≡ true = sym (without_part k i A B (C ++ D) nk.0 ni.0) ∙ ap (earlier k i) (sym (append_assoc A B (C ++ D))) ∙ h in
    by_repetition_of r (front_earlier k i (A ++ C) D nk.1 (ap (earlier k i) (append_assoc A C D) ∙ x))
  where
    by_repetition_of : (r : Repetition) → earlier k i (unless_repeated r (shape_near_order s (first_picks G)) ++ (where_repeated r (shape_near_order s (first_picks G)) ++ shape_far_order s (first_picks G))) ≡ true
        → earlier k i (shape_near_order s (first_picks G) ++ shape_far_order s (first_picks G)) ≡ true
    by_repetition_of required x = x
    by_repetition_of optional x = x
    by_repetition_of repeated x = x

-- both through a later one
later_earlier : (k i : ℕ) (r : Repetition) (s : Shape) (fs : Fields) (G : List Pick) → Without k (first_picks G) → Without i (first_picks G)
    → earlier k i ((unless_repeated r (shape_near_order s (first_picks G)) ++ near_order fs (later_picks G)) ++ ((where_repeated r (shape_near_order s (first_picks G)) ++ shape_far_order s (first_picks G)) ++ far_order fs (later_picks G))) ≡ true
    → earlier k i (near_order fs (later_picks G) ++ far_order fs (later_picks G)) ≡ true
later_earlier k i r s fs G wk wi h =
    let A = unless_repeated r (shape_near_order s (first_picks G)) in
    let B = near_order fs (later_picks G) in
    let C = where_repeated r (shape_near_order s (first_picks G)) ++ shape_far_order s (first_picks G) in
    let D = far_order fs (later_picks G) in
    let nk : (times k A ≡ 0) × (times k C ≡ 0) = shape_none k r s (first_picks G) wk in
    let ni : (times i A ≡ 0) × (times i C ≡ 0) = shape_none i r s (first_picks G) wi in
    sym (without_part k i B C D nk.1 ni.1) ∙ sym (without_part k i [] A (B ++ (C ++ D)) nk.0 ni.0) ∙ ap (earlier k i) (sym (append_assoc A B (C ++ D))) ∙ h

through_together : (k i : ℕ) (m : List ℕ) (r : Repetition) (s : Shape) (fs : Fields) (q p : List Step) (c e : Repetition) → ShapeTogether k i q p s → FieldsTogether k i q p c e fs → FieldsTogether k i q p c e (field m r s fs)
through_together k i m r s fs q p c e f g zero zero G ok oi uk ui d h x =
    let sk : (same_repetition c r ≡ true) × (is_shape_path s q ≡ true) = and_parts _ _ uk in
    let si : (same_repetition e r ≡ true) × (is_shape_path s p ≡ true) = and_parts _ _ ui in
    let ce : c ≡ e = same_repetition-true c r sk.0 ∙ sym (same_repetition-true e r si.0) in
    let front : is_chain_front (chain q) (chain p) ≡ true = below_chain (step 0 e) q p (subst (λ (y : Repetition). is_chain_front (chain (step 0 y ∷ q)) (chain (step 0 e ∷ p)) ≡ true) ce h) in
    inl (
      refl,
      f (first_picks G) (only_behind k c q G ok) (only_behind i e p G oi) sk.1 si.1 (λ y. d (ap₂ (λ (a : Repetition) (b : List Step). step 0 a ∷ b) ce y)) front
          (first_earlier k i r s fs G (beside_first k c q G ok) (beside_first i e p G oi) x),
    )
through_together k i m r s fs q p c e f g zero (suc b) G ok oi uk ui d h x =
    let n : (0 == suc b) ≡ false = ne_eqb 0 (suc b) (omega arith) in
    inr (n, apart_chain (step 0 c) (step (suc b) e) q p n h, by_max (max_repetition (step (suc b) e ∷ p)) refl)
  where
    by_max : (y : ℕ) → max_repetition (step (suc b) e ∷ p) ≡ y → (0 < max_repetition (step (suc b) e ∷ p)) ⊎ ((0 < suc b) × (max_repetition (step (suc b) e ∷ p) ≡ 0))
    by_max zero z = inr (omega arith, z)
    by_max (suc y) z = inl (omega (arith, z))
through_together k i m r s fs q p c e f g (suc a) zero G ok oi uk ui d h x =
    let n : (suc a == 0) ≡ false = ne_eqb (suc a) 0 (λ y. omega (arith, y)) in
    inr (n, apart_chain (step (suc a) c) (step 0 e) q p n h, inl (by_max (max_repetition (step 0 e ∷ p)) refl))
  where
    near : max_repetition (step 0 e ∷ p) ≡ 0 → earlier k i (near_order (field m r s fs) G ++ far_order (field m r s fs) G) ≡ false
    near z =
        let A = unless_repeated r (shape_near_order s (first_picks G)) in
        let si : (same_repetition e r ≡ true) × (is_shape_path s p ≡ true) = and_parts (same_repetition e r) (is_shape_path s p) ui in
        let y : 0 < times i A = near_here i p r s (shape_near i s p) (first_picks G) (only_behind i e p G oi) si.1
        (subst (λ (v : Repetition). repetition_count v + max_repetition p ≡ 0) (same_repetition-true e r si.0) z) in
        ap (earlier k i) (append_assoc A (near_order fs (later_picks G)) (far_order (field m r s fs) G))
        ∙ other_first k i A (near_order fs (later_picks G) ++ far_order (field m r s fs) G) (shape_none k r s (first_picks G) (behind_later k a c q G ok)).0 y

    by_max : (y : ℕ) → max_repetition (step 0 e ∷ p) ≡ y → 0 < max_repetition (step 0 e ∷ p)
    by_max zero z = absurd (true≢false (sym x ∙ near z))
    by_max (suc y) z = omega (arith, z)
through_together k i m r s fs q p c e f g (suc a) (suc b) G ok oi uk ui d h x =
    let fronts : is_chain_front (chain (step a c ∷ q)) (chain (step b e ∷ p)) ≡ true = same_chains (step a c) (step b e) (step (suc a) c) (step (suc b) e) c e (sym (suc_same a b)) (sym (suc_same b a)) (chain q) (chain p) ∙ h in
    above (g a b (later_picks G) (only_beside k a c q G ok) (only_beside i b e p G oi) uk ui (λ y. d (raised y)) fronts (later_earlier k i r s fs G (behind_later k a c q G ok) (behind_later i b e p G oi) x))
  where
    raised : step a c ∷ q ≡ step b e ∷ p → step (suc a) c ∷ q ≡ step (suc b) e ∷ p
    raised y =
        let t : step a c ≡ step b e = cc in
        let u : q ≡ p = cc in
        ap₂ (λ (v : Step) (w : List Step). step (suc v.place) v.repetition ∷ w) t u

    above : Before (k ≡ i) q p (step a c) (step b e) → Before (k ≡ i) q p (step (suc a) c) (step (suc b) e)
    above (inl y) = inl (ap suc y.0, y.1)
    above (inr y) = inr (suc_same a b ∙ y.0, y.1, by_case y.2)
      where
        by_case : (0 < max_repetition (step b e ∷ p)) ⊎ ((a < b) × (max_repetition (step b e ∷ p) ≡ 0)) → (0 < max_repetition (step (suc b) e ∷ p)) ⊎ ((suc a < suc b) × (max_repetition (step (suc b) e ∷ p) ≡ 0))
        by_case (inl z) = inl z
        by_case (inr z) = inr (omega (arith, z.0), z.1)

group_together : (k i : ℕ) (s t : Step) (q p : List Step) → Before (k ≡ i) q p s t → Together (k ≡ i) (Unit {0}) (s ∷ q) (t ∷ p)
group_together k i s t q p (inl h) = subst (λ (a : ℕ). Together (k ≡ i) (Unit {0}) (step s.place s.repetition ∷ q) (step a t.repetition ∷ p)) h.0 (along s.place s.repetition t.repetition q p h.1)
group_together k i s t q p (inr h) = apart s t q p tt h

mutual
  fields_together : (k i : ℕ) (fs : Fields) (q p : List Step) (c e : Repetition) → FieldsTogether k i q p c e fs
  fields_together k i no_fields q p c e a b G ok oi uk ui d h x = absurd (true≢false (sym uk))
  fields_together k i (field m r s fs) q p c e a b G ok oi uk ui d h x =
      through_together k i m r s fs q p c e (λ G ok oi uk ui d h x. shape_together k i s q p G ok oi uk ui d h x) (λ a b G ok oi uk ui d h x. fields_together k i fs q p c e a b G ok oi uk ui d h x) a b G ok oi uk ui d h x

  pub shape_together : (k i : ℕ) (s : Shape) (q p : List Step) → ShapeTogether k i q p s
  shape_together k i (leaf w) [] [] G ok oi uk ui d h x = same_leaf (d refl)
  shape_together k i (leaf w) (s ∷ q) p G ok oi uk ui d h x = absurd (true≢false (sym uk))
  shape_together k i (leaf w) [] (t ∷ p) G ok oi uk ui d h x = absurd (true≢false (sym ui))
  shape_together k i (group fs) (s ∷ q) (t ∷ p) G ok oi uk ui d h x = group_together k i s t q p (fields_together k i fs q p s.repetition t.repetition s.place t.place G ok oi uk ui d h x)
  shape_together k i (group fs) [] p G ok oi uk ui d h x = absurd (no_path fs uk)
  shape_together k i (group fs) (s ∷ q) [] G ok oi uk ui d h x = absurd (no_path fs ui)

-- ---- a selection

differs_from : (F : List (List Step)) (k : ℕ) (p : List Step) → differs p F ≡ true → slice_get F k ≡ Some p → ⊥
differs_from [] k p h e = cc
differs_from (x ∷ F) zero p h e = let y : x ≡ p = cc in true≢false (sym (and_parts (not (same_path p x)) (differs p F) h).0 ∙ ap (λ (z : List Step). not (same_path p z)) y ∙ ap not (same_itself p))
differs_from (x ∷ F) (suc k) p h e = differs_from F k p (and_parts (not (same_path p x)) (differs p F) h).1 e

-- no two places have the same leaf
same_place : (F : List (List Step)) (k i : ℕ) (p : List Step) → all_differ F ≡ true → slice_get F k ≡ Some p → slice_get F i ≡ Some p → k ≡ i
same_place [] k i p h a b = absurd (cc)
same_place (x ∷ F) zero zero p h a b = refl
same_place (x ∷ F) zero (suc i) p h a b = let e : x ≡ p = cc in absurd (differs_from F i p (subst (λ (y : List Step). differs y F ≡ true) e (and_parts (differs x F) (all_differ F) h).0) b)
same_place (x ∷ F) (suc k) zero p h a b = let e : x ≡ p = cc in absurd (differs_from F k p (subst (λ (y : List Step). differs y F ≡ true) e (and_parts (differs x F) (all_differ F) h).0) a)
same_place (x ∷ F) (suc k) (suc i) p h a b = ap suc (same_place F k i p (and_parts (differs x F) (all_differ F) h).1 a b)

selected_before : (F : List (List Step)) (k : ℕ) (q : List Step) → slice_get F k ≡ Some q → k < length F
selected_before [] k q e = absurd (cc)
selected_before (x ∷ F) zero q e = omega arith
selected_before (x ∷ F) (suc k) q e = let h : k < length F = selected_before F k q e in omega (arith, h)

pub read_together : ReadTogether
read_together fs F i p [] o d e b = tt
read_together fs F i p (k ∷ K) o d e b =
    let q : List Step = b.0.0 in
    let x : earlier k i (reading_order fs F) ≡ true = ap (earlier k i) o.0 ∙ counting_earlier k i 0 (length F) (omega arith) b.0.2 (omega (arith, selected_before F k q b.0.1)) in (
      (q, b.0.1, shape_together k i (group fs) q p (picks F) (selected_only F k q b.0.1) (selected_only F i p e) (o.1 k q b.0.1) (o.1 i p e) (λ y. same_place F k i p d (b.0.1 ∙ ap Some y) e) b.0.3 x),
      read_together fs F i p K o d e b.1,
    )
