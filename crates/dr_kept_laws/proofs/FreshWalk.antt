-- In the walk of a record: of three leaves that are read together, wherever the last is given, the first wasn't read since the second was.
use Rattle.std.proofs.Common.{◌≡◌, ◌⊎◌, inl, inr, ℕ, zero, suc, ◌+◌, ◌<◌, List, [], ◌∷◌, ◌++◌, Bool, true, Option, None, Some, refl, sym, ap₂, subst, ◌∙◌, append_assoc, true≢false, arith}
use Rattle.std.specs.List.{slice_get, list_all, flat_map}
use Rattle.std.proofs.lemmas.Bool.{and_parts, eq-eqb}
use Rattle.dr_meaning.specs.Schema.{Repetition, required, optional, repeated, Fields, no_fields, field, Shape, leaf, group, repetition_count, shape_repeated_fields}
use Rattle.dr_meaning.specs.Path.{Step, is_leaf_path, is_shape_path, same_repetition, max_repetition}
use Rattle.dr_meaning.specs.Record.{Node, no_slots, Instances, no_instances, instance, Instance, atom, inner, all_instances, is_record, is_instance}
use Rattle.dr_meaning.specs.Column.{Triplet}
use Rattle.dr_meaning.specs.Automaton.{Pick, picks, first_picks, later_picks}
use Rattle.dr_meaning.specs.Walk.{Move, enter, value, leave, Depth, inside, begun_later, first_of, first_slot, other_slots, unless_repeated, enclosed, later_moves, repeated_moves, by_repetition, where_selected, moves_in, near_moves, far_moves, shape_near_moves, shape_far_moves, top, record_moves, walk}
use Rattle.dr_meaning.specs.WalkLaws.{triplets_of}
use Rattle.dr_meaning.proofs.ProjectionLemmas.{step}
use Rattle.dr_meaning.proofs.Blocks.{same_repetition-true}
use Rattle.dr_meaning.proofs.WalkLemmas.{of_append, Only, only_behind, only_beside, beside_first, behind_later, near_nothing, far_nothing, shape_near_nothing, shape_far_nothing, near_in, far_in, far_in_nothing, unless_nothing, IsNode, IsThere, FirstSlot, first_of_node}
use Rattle.dr_kept_laws.proofs.FreshLemmas.{fresh_by, fresh_after, Fresh, after_append, fresh_append, fresh_rest, quiet_fresh, steady_fresh, untouched, same_fresh, own_fresh}
use Rattle.dr_kept_laws.proofs.Selections.{selected_only, no_path, both_empty}
use Rattle.dr_kept_laws.proofs.FreshEnds.{Before, before_below, other_place, near_ends, fields_end, shape_ends}
use Rattle.dr_moves.specs.Together.{IsApart, Together, same_leaf, along, apart}
use Rattle.dr_moves.proofs.NearLemmas.{first_there, fields_far_silent, fields_near_silent}
use Rattle.dr_moves.proofs.FiringLemmas.{with_itself}

-- ---- parts of moves

fresh_front : (i j k : ℕ) (v : Bool) (a b : List Move) → Fresh i j k v (a ++ b) → Fresh i j k v a
fresh_front i j k v [] b h = tt
fresh_front i j k v (enter m ∷ a) b h = fresh_front i j k v a b h
fresh_front i j k v (value l t ∷ a) b h = (h.0, fresh_front i j k (fresh_by j k l v) a b h.1)
fresh_front i j k v (leave m ∷ a) b h = fresh_front i j k v a b h

-- none of the three in B and D
first_fresh : (i j k : ℕ) (v : Bool) (A B C D : List Move) → triplets_of i B ≡ [] → triplets_of j B ≡ [] → triplets_of k B ≡ [] → triplets_of i D ≡ [] → Fresh i j k v (A ++ C) → Fresh i j k v ((A ++ B) ++ (C ++ D))
first_fresh i j k v A B C D ib jb kb id h =
    let e : fresh_after j k v A ≡ fresh_after j k v (A ++ B) = sym (after_append j k v A B ∙ untouched j k (fresh_after j k v A) B jb kb) in
    fresh_append i j k v (A ++ B) (C ++ D) (fresh_append i j k v A B (fresh_front i j k v A C h) (quiet_fresh i j k (fresh_after j k v A) B ib))
    (subst (λ (x : Bool). Fresh i j k x (C ++ D)) e (fresh_append i j k (fresh_after j k v A) C D (fresh_rest i j k v A C h) (quiet_fresh i j k (fresh_after j k (fresh_after j k v A) C) D id)))

-- the last not in A, none of the three in C
later_fresh : (i j k : ℕ) (v : Bool) (A B C D : List Move) → triplets_of i A ≡ [] → triplets_of i C ≡ [] → triplets_of j C ≡ [] → triplets_of k C ≡ [] → ((x : Bool) → Fresh i j k x (B ++ D)) → Fresh i j k v ((A ++ B) ++ (C ++ D))
later_fresh i j k v A B C D ia ic jc kc h =
    let x = fresh_after j k v A in
    let e : fresh_after j k x B ≡ fresh_after j k v (A ++ B) = sym (after_append j k v A B) in
    fresh_append i j k v (A ++ B) (C ++ D) (fresh_append i j k v A B (quiet_fresh i j k v A ia) (fresh_front i j k x B D (h x)))
    (subst (λ (y : Bool). Fresh i j k y (C ++ D)) e (fresh_append i j k (fresh_after j k x B) C D (quiet_fresh i j k (fresh_after j k x B) C ic)
    (subst (λ (y : Bool). Fresh i j k y D) (sym (untouched j k (fresh_after j k x B) C jc kc)) (fresh_rest i j k x B D (h x)))))

both_silent : (k : ℕ) (a b : List Move) → triplets_of k (a ++ b) ≡ [] → (triplets_of k a ≡ []) × (triplets_of k b ≡ [])
both_silent k a b h = both_empty (triplets_of k a) (triplets_of k b) (sym (of_append k a b) ∙ h)

-- ---- a shape, fields

abbrev pub ShapeFresh : ℕ → ℕ → ℕ → List Step → List Step → List Step → Shape → Type 0
ShapeFresh i j k q s p h = (G : List Pick) → Only k q G → Only j s G → Only i p G → is_shape_path h q ≡ true → is_shape_path h s ≡ true → is_shape_path h p ≡ true
    → Together (k ≡ j) (Unit {0}) q s → Together (j ≡ i) (Unit {0}) s p → Together (k ≡ i) (Unit {0}) q p
    → (l : ℕ) (at : Depth) (x : Option Instance) → IsThere h x → (v : Bool) → Fresh i j k v (moves_in (shape_near_moves h G) (shape_far_moves h G l) at x)

abbrev pub FieldsFresh : ℕ → ℕ → ℕ → List Step → List Step → List Step → Repetition → Repetition → Repetition → Fields → Type 0
FieldsFresh i j k q s p ck cj ci fs = (a b d : ℕ) (G : List Pick) → Only k (step a ck ∷ q) G → Only j (step b cj ∷ s) G → Only i (step d ci ∷ p) G
    → is_leaf_path fs (step a ck ∷ q) ≡ true → is_leaf_path fs (step b cj ∷ s) ≡ true → is_leaf_path fs (step d ci ∷ p) ≡ true
    → Before (k ≡ j) q s (step a ck) (step b cj) → Before (j ≡ i) s p (step b cj) (step d ci) → Before (k ≡ i) q p (step a ck) (step d ci)
    → (l : ℕ) (at : Depth) (n : Node) → IsNode fs n → (v : Bool) → Fresh i j k v (near_moves fs G at n ++ far_moves fs G l at n)

-- the last is below a repeated field, the others aren't
apart_far : (i j k : ℕ) (fs : Fields) (a b d : ℕ) (q s p : List Step) (ck cj ci : Repetition) (G : List Pick) → Only k (step a ck ∷ q) G → Only j (step b cj ∷ s) G → Only i (step d ci ∷ p) G
    → is_leaf_path fs (step a ck ∷ q) ≡ true → is_leaf_path fs (step b cj ∷ s) ≡ true → is_leaf_path fs (step d ci ∷ p) ≡ true → Before (k ≡ j) q s (step a ck) (step b cj)
    → max_repetition (step a ck ∷ q) ≡ 0 → max_repetition (step b cj ∷ s) ≡ 0 → 0 < max_repetition (step d ci ∷ p) → (l : ℕ) (at : Depth) (n : Node) → IsNode fs n → (v : Bool) → Fresh i j k v (near_moves fs G at n ++ far_moves fs G l at n)
apart_far i j k fs a b d q s p ck cj ci G ok oj oi uk uj ui x zk zj zi l at n z v =
    fresh_append i j k v (near_moves fs G at n) (far_moves fs G l at n) (quiet_fresh i j k v (near_moves fs G at n) (fields_near_silent i fs ci p zi d G oi ui at n))
    (subst (λ (y : Bool). Fresh i j k y (far_moves fs G l at n)) (sym (fields_end j k fs q s ck cj a b G ok oj uk uj x zk zj at n z v))
    (steady_fresh i j k (far_moves fs G l at n) (fields_far_silent k fs ck q zk a G ok uk l at n)))

later_instances : (i j k : ℕ) (h : Shape) (G : List Pick) → ((l : ℕ) (at : Depth) (x : Option Instance) → IsThere h x → (v : Bool) → Fresh i j k v (moves_in (shape_near_moves h G) (shape_far_moves h G l) at x))
    → (l : ℕ) (at : Depth) (xs : Instances) → all_instances (is_instance h) xs ≡ true → (v : Bool) → Fresh i j k v (later_moves l (λ (x : Option Instance). moves_in (shape_near_moves h G) (shape_far_moves h G (suc l)) (inside repeated (begun_later at) x) x) xs)
later_instances i j k h G f l at no_instances a v = tt
later_instances i j k h G f l at (instance x xs) a v =
    let b : (is_instance h x ≡ true) × (all_instances (is_instance h) xs ≡ true) = and_parts _ _ a in
    let A = moves_in (shape_near_moves h G) (shape_far_moves h G (suc l)) (inside repeated (begun_later at) (Some x)) (Some x) in
    fresh_append i j k v (enclosed l A) _ (fresh_append i j k v A (leave l ∷ []) (f (suc l) (inside repeated (begun_later at) (Some x)) (Some x) b.0 v) tt) (later_instances i j k h G f l at xs b.1 (fresh_after j k v (enclosed l A)))

-- one field
field_fresh : (i j k : ℕ) (p : List Step) (r : Repetition) (h : Shape) (G : List Pick) → Only i p G
    → ((l : ℕ) (at : Depth) (x : Option Instance) → IsThere h x → (v : Bool) → Fresh i j k v (moves_in (shape_near_moves h G) (shape_far_moves h G l) at x))
    → (l : ℕ) (at : Depth) (xs : Instances) → all_instances (is_instance h) xs ≡ true → (v : Bool)
    → Fresh i j k v (unless_repeated r (shape_near_moves h G (inside r at (first_of xs)) (first_of xs))
    ++ where_selected G (by_repetition r (repeated_moves l (λ x. moves_in (shape_near_moves h G) (shape_far_moves h G (suc l)) (inside r at x) x) (λ x. moves_in (shape_near_moves h G) (shape_far_moves h G (suc l)) (inside r (begun_later at) x) x)) (λ x. shape_far_moves h G l (inside r at x) x) xs))
field_fresh i j k p r h [] o f l at xs a v = absurd o
field_fresh i j k p required h (g ∷ G) o f l at xs a v = f l (inside required at (first_of xs)) (first_of xs) (first_there h xs a) v
field_fresh i j k p optional h (g ∷ G) o f l at xs a v = f l (inside optional at (first_of xs)) (first_of xs) (first_there h xs a) v
field_fresh i j k p repeated h (g ∷ G) o f l at no_instances a v = f (suc l) (inside repeated at None) None tt v
field_fresh i j k p repeated h (g ∷ G) o f l at (instance x xs) a v =
    let b : (is_instance h x ≡ true) × (all_instances (is_instance h) xs ≡ true) = and_parts _ _ a in
    let A = moves_in (shape_near_moves h (g ∷ G)) (shape_far_moves h (g ∷ G) (suc l)) (inside repeated at (Some x)) (Some x) in
    fresh_append i j k v (enclosed l A) _ (fresh_append i j k v A (leave l ∷ []) (f (suc l) (inside repeated at (Some x)) (Some x) b.0 v) tt) (later_instances i j k h (g ∷ G) f l at xs b.1 (fresh_after j k v (enclosed l A)))

-- ---- a leaf of the first field, or of a later one

module _ (m : List ℕ) (r : Repetition) (h : Shape) (fs : Fields) (G : List Pick) (l : ℕ) (at : Depth) (n : Node) where
  abbrev near_first : List Move
  near_first = near_in r h (first_picks G) at n

  abbrev near_others : List Move
  near_others = near_moves fs (later_picks G) at (other_slots n)

  abbrev far_first : List Move
  far_first = far_in r h (first_picks G) l at n

  abbrev far_others : List Move
  far_others = far_moves fs (later_picks G) (l + (repetition_count r + shape_repeated_fields h)) at (other_slots n)

  near_quiet : (x b : ℕ) (c : Repetition) (s : List Step) → Only x (step (suc b) c ∷ s) G → triplets_of x near_first ≡ []
  near_quiet x b c s o = unless_nothing x r (shape_near_moves h (first_picks G) (inside r at (first_of (first_slot n))) (first_of (first_slot n)))
      (shape_near_nothing x h (first_picks G) (inside r at (first_of (first_slot n))) (first_of (first_slot n)) (behind_later x b c s G o))

  far_quiet : (x b : ℕ) (c : Repetition) (s : List Step) → Only x (step (suc b) c ∷ s) G → triplets_of x far_first ≡ []
  far_quiet x b c s o = far_in_nothing x r h (first_picks G) l at n (λ d y. shape_near_nothing x h (first_picks G) d y (behind_later x b c s G o)) (λ e d y. shape_far_nothing x h (first_picks G) e d y (behind_later x b c s G o))

  others_quiet : (x : ℕ) (c : Repetition) (s : List Step) → Only x (step 0 c ∷ s) G → (triplets_of x near_others ≡ []) × (triplets_of x far_others ≡ [])
  others_quiet x c s o = (near_nothing x fs (later_picks G) at (other_slots n) (beside_first x c s G o), far_nothing x fs (later_picks G) (l + (repetition_count r + shape_repeated_fields h)) at (other_slots n) (beside_first x c s G o))

  module _ (i j k : ℕ) (q s p : List Step) (ck cj ci : Repetition) (z : IsNode (field m r h fs) n) where
    -- all three go through the first field
    all_first : Only k (step 0 ck ∷ q) G → Only j (step 0 cj ∷ s) G → Only i (step 0 ci ∷ p) G
        → ((l : ℕ) (at : Depth) (x : Option Instance) → IsThere h x → (v : Bool) → Fresh i j k v (moves_in (shape_near_moves h (first_picks G)) (shape_far_moves h (first_picks G) l) at x))
        → (v : Bool) → Fresh i j k v ((near_first ++ near_others) ++ (far_first ++ far_others))
    all_first ok oj oi f v =
        let w : FirstSlot r h fs n = first_of_node m r h fs n z in
        first_fresh i j k v near_first near_others far_first far_others (others_quiet i ci p oi).0 (others_quiet j cj s oj).0 (others_quiet k ck q ok).0 (others_quiet i ci p oi).1
        (field_fresh i j k p r h (first_picks G) (only_behind i ci p G oi) f l at (first_slot n) w.1 v)

    -- the last goes through a later one, the others are leaves of the level
    last_later : (d : ℕ) → Only k (step 0 ck ∷ q) G → Only j (step 0 cj ∷ s) G → Only i (step (suc d) ci ∷ p) G → is_leaf_path (field m r h fs) (step 0 ck ∷ q) ≡ true → is_leaf_path (field m r h fs) (step 0 cj ∷ s) ≡ true
        → Together (k ≡ j) (Unit {0}) q s → max_repetition (step 0 ck ∷ q) ≡ 0 → max_repetition (step 0 cj ∷ s) ≡ 0 → (v : Bool) → Fresh i j k v ((near_first ++ near_others) ++ (far_first ++ far_others))
    last_later d ok oj oi uk uj t zk zj v =
        let w : FirstSlot r h fs n = first_of_node m r h fs n z in
        let sk : (same_repetition ck r ≡ true) × (is_shape_path h q ≡ true) = and_parts _ _ uk in
        let sj : (same_repetition cj r ≡ true) × (is_shape_path h s ≡ true) = and_parts _ _ uj in
        let zq : max_repetition q ≡ 0 = omega (arith, zk) in
        let zs : repetition_count r + max_repetition s ≡ 0 = subst (λ (y : Repetition). repetition_count y + max_repetition s ≡ 0) (same_repetition-true cj r sj.0) zj in
        let e : fresh_after j k v near_first ≡ true = near_ends j k q s r h (shape_ends j k h q s) (first_picks G) (only_behind k ck q G ok) (only_behind j cj s G oj) sk.1 sj.1 t zq zs at n (first_there h (first_slot n) w.1) v in
        let x : triplets_of k (near_others ++ (far_first ++ far_others)) ≡ [] = of_append k near_others (far_first ++ far_others) ∙ ap₂ (λ (a b : List Triplet). a ++ b) (others_quiet k ck q ok).0 (fields_far_silent k (field m r h fs) ck q zk 0 G ok uk l at n) in
        subst (Fresh i j k v) (sym (append_assoc near_first near_others (far_first ++ far_others)))
        (fresh_append i j k v near_first (near_others ++ (far_first ++ far_others)) (quiet_fresh i j k v near_first (near_quiet i d ci p oi))
        (subst (λ (y : Bool). Fresh i j k y (near_others ++ (far_first ++ far_others))) (sym e) (steady_fresh i j k (near_others ++ (far_first ++ far_others)) x)))

    -- the second and the last go through later ones
    two_later : (b d : ℕ) → Only j (step (suc b) cj ∷ s) G → Only i (step (suc d) ci ∷ p) G → triplets_of k far_first ≡ [] → ((v : Bool) → Fresh i j k v (near_others ++ far_others))
        → (v : Bool) → Fresh i j k v ((near_first ++ near_others) ++ (far_first ++ far_others))
    two_later b d oj oi kc f v = later_fresh i j k v near_first near_others far_first far_others (near_quiet i d ci p oi) (far_quiet i d ci p oi) (far_quiet j b cj s oj) kc f

    -- the first is a leaf of the level in the first field
    first_near : Only k (step 0 ck ∷ q) G → is_leaf_path (field m r h fs) (step 0 ck ∷ q) ≡ true → max_repetition (step 0 ck ∷ q) ≡ 0 → (triplets_of k far_first ≡ []) × (triplets_of k (near_others ++ far_others) ≡ [])
    first_near ok uk zk = (
      (both_silent k far_first far_others (fields_far_silent k (field m r h fs) ck q zk 0 G ok uk l at n)).0,
      of_append k near_others far_others ∙ ap₂ (λ (a b : List Triplet). a ++ b) (others_quiet k ck q ok).0 (others_quiet k ck q ok).1,
    )

    -- the first is a leaf of the level in a later field, the others are below a repeated field
    first_later : (a : ℕ) → Only k (step (suc a) ck ∷ q) G → Only j (step 0 cj ∷ s) G → Only i (step 0 ci ∷ p) G → is_leaf_path (field m r h fs) (step (suc a) ck ∷ q) ≡ true → is_leaf_path (field m r h fs) (step 0 cj ∷ s) ≡ true
        → is_leaf_path (field m r h fs) (step 0 ci ∷ p) ≡ true → max_repetition (step (suc a) ck ∷ q) ≡ 0 → 0 < max_repetition (step 0 cj ∷ s) → 0 < max_repetition (step 0 ci ∷ p)
        → ((l : ℕ) (at : Depth) (x : Option Instance) → IsThere h x → (v : Bool) → Fresh i j j v (moves_in (shape_near_moves h (first_picks G)) (shape_far_moves h (first_picks G) l) at x))
        → (v : Bool) → Fresh i j k v ((near_first ++ near_others) ++ (far_first ++ far_others))
    first_later a ok oj oi uk uj ui zk zj zi f v =
        let w : FirstSlot r h fs n = first_of_node m r h fs n z in
        let y = fresh_after j k v (near_first ++ near_others) in
        let jn : triplets_of j near_first ≡ [] = (both_silent j near_first near_others (fields_near_silent j (field m r h fs) cj s zj 0 G oj uj at n)).0 in
        let c : Fresh i j j y far_first = subst (λ (x : Bool). Fresh i j j x far_first) (untouched j j y near_first jn jn)
        (fresh_rest i j j y near_first far_first (field_fresh i j j p r h (first_picks G) (only_behind i ci p G oi) f l at (first_slot n) w.1 y)) in
        fresh_append i j k v (near_first ++ near_others) (far_first ++ far_others) (quiet_fresh i j k v (near_first ++ near_others) (fields_near_silent i (field m r h fs) ci p zi 0 G oi ui at n))
        (fresh_append i j k y far_first far_others (own_fresh i j k y far_first (far_quiet k a ck q ok) c) (quiet_fresh i j k (fresh_after j k y far_first) far_others (others_quiet i ci p oi).1))

-- ---- all of it

far_of : (q p : List Step) (a b : ℕ) (c e : Repetition) → IsApart (step (suc a) c) (step 0 e) q p → 0 < max_repetition (step 0 e ∷ p)
far_of q p a b c e x = by_case x.2
  where
    by_case : (0 < max_repetition (step 0 e ∷ p)) ⊎ ((suc a < 0) × (max_repetition (step 0 e ∷ p) ≡ 0)) → 0 < max_repetition (step 0 e ∷ p)
    by_case (inl y) = y
    by_case (inr y) = absurd (omega (arith, y.0))

through_fresh : (i j : ℕ) (m : List ℕ) (r : Repetition) (h : Shape) (fs : Fields) (s p : List Step) (cj ci : Repetition) → ((k : ℕ) (q : List Step) → ShapeFresh i j k q s p h) → ((k : ℕ) (q : List Step) (ck : Repetition) → FieldsFresh i j k q s p ck cj ci fs)
    → (k : ℕ) (q : List Step) (ck : Repetition) → FieldsFresh i j k q s p ck cj ci (field m r h fs)
through_fresh i j m r h fs s p cj ci f g k q ck zero zero zero G ok oj oi uk uj ui (inl x) (inl y) (inl t) l at n z v =
    all_first m r h fs G l at n i j k q s p ck cj ci z ok oj oi
    (λ l at u b v. f k q (first_picks G) (only_behind k ck q G ok) (only_behind j cj s G oj) (only_behind i ci p G oi) (and_parts _ _ uk).1 (and_parts _ _ uj).1 (and_parts _ _ ui).1 x.1 y.1 t.1 l at u b v) v
through_fresh i j m r h fs s p cj ci f g k q ck zero zero zero G ok oj oi uk uj ui (inr x) y t l at n z v = absurd (true≢false (sym (eq-eqb 0 0 refl) ∙ x.0))
through_fresh i j m r h fs s p cj ci f g k q ck zero zero zero G ok oj oi uk uj ui (inl x) (inr y) t l at n z v = absurd (true≢false (sym (eq-eqb 0 0 refl) ∙ y.0))
through_fresh i j m r h fs s p cj ci f g k q ck zero zero zero G ok oj oi uk uj ui (inl x) (inl y) (inr t) l at n z v = absurd (true≢false (sym (eq-eqb 0 0 refl) ∙ t.0))
through_fresh i j m r h fs s p cj ci f g k q ck zero zero (suc d) G ok oj oi uk uj ui (inl x) y t l at n z v =
    last_later m r h fs G l at n i j k q s p ck cj ci z d ok oj oi uk uj x.1 (other_place (k ≡ i) q p (step 0 ck) (step (suc d) ci) (λ e. omega (arith, e)) t).1
    (other_place (j ≡ i) s p (step 0 cj) (step (suc d) ci) (λ e. omega (arith, e)) y).1 v
through_fresh i j m r h fs s p cj ci f g k q ck zero zero (suc d) G ok oj oi uk uj ui (inr x) y t l at n z v = absurd (true≢false (sym (eq-eqb 0 0 refl) ∙ x.0))
through_fresh i j m r h fs s p cj ci f g k q ck zero (suc b) zero G ok oj oi uk uj ui x y t l at n z v =
    let ji = other_place (j ≡ i) s p (step (suc b) cj) (step 0 ci) (λ e. omega (arith, e)) y in
    let kj = other_place (k ≡ j) q s (step 0 ck) (step (suc b) cj) (λ e. omega (arith, e)) x in
    apart_far i j k (field m r h fs) 0 (suc b) 0 q s p ck cj ci G ok oj oi uk uj ui x kj.1 ji.1 (far_of s p b 0 cj ci ji) l at n z v
through_fresh i j m r h fs s p cj ci f g k q ck zero (suc b) (suc d) G ok oj oi uk uj ui x y t l at n z v =
    let w : FirstSlot r h fs n = first_of_node m r h fs n z in
    let kj = other_place (k ≡ j) q s (step 0 ck) (step (suc b) cj) (λ e. omega (arith, e)) x in
    let near : (triplets_of k (far_first m r h fs G l at n) ≡ []) × (triplets_of k (near_others m r h fs G l at n ++ far_others m r h fs G l at n) ≡ []) = first_near m r h fs G l at n i j k q s p ck cj ci z ok uk kj.1 in
    two_later m r h fs G l at n i j k q s p ck cj ci z b d oj oi near.0
    (λ v. own_fresh i j k v (near_others m r h fs G l at n ++ far_others m r h fs G l at n) near.1 (g j s cj b b d (later_picks G) (only_beside j b cj s G oj) (only_beside j b cj s G oj) (only_beside i d ci p G oi) uj uj ui
    (inl (refl, with_itself (j ≡ j) (Unit {0}) refl s)) (before_below (j ≡ i) s p b d cj ci y) (before_below (j ≡ i) s p b d cj ci y) (l + (repetition_count r + shape_repeated_fields h)) at (other_slots n) w.3 v)) v
through_fresh i j m r h fs s p cj ci f g k q ck (suc a) zero zero G ok oj oi uk uj ui x (inl y) t l at n z v =
    let kj = other_place (k ≡ j) q s (step (suc a) ck) (step 0 cj) (λ e. omega (arith, e)) x in
    let ki = other_place (k ≡ i) q p (step (suc a) ck) (step 0 ci) (λ e. omega (arith, e)) t in
    first_later m r h fs G l at n i j k q s p ck cj ci z a ok oj oi uk uj ui kj.1 (far_of q s a 0 ck cj kj) (far_of q p a 0 ck ci ki)
    (λ l at u b v. f j s (first_picks G) (only_behind j cj s G oj) (only_behind j cj s G oj) (only_behind i ci p G oi) (and_parts _ _ uj).1 (and_parts _ _ uj).1 (and_parts _ _ ui).1 (with_itself (j ≡ j) (Unit {0}) refl s) y.1 y.1 l at u b v) v
through_fresh i j m r h fs s p cj ci f g k q ck (suc a) zero zero G ok oj oi uk uj ui x (inr y) t l at n z v = absurd (true≢false (sym (eq-eqb 0 0 refl) ∙ y.0))
through_fresh i j m r h fs s p cj ci f g k q ck (suc a) zero (suc d) G ok oj oi uk uj ui x y t l at n z v =
    let kj = other_place (k ≡ j) q s (step (suc a) ck) (step 0 cj) (λ e. omega (arith, e)) x in
    let ji = other_place (j ≡ i) s p (step 0 cj) (step (suc d) ci) (λ e. omega (arith, e)) y in
    let far : 0 < max_repetition (step 0 cj ∷ s) = far_of q s a 0 ck cj kj in
    absurd (omega (arith, far, ji.1))
through_fresh i j m r h fs s p cj ci f g k q ck (suc a) (suc b) zero G ok oj oi uk uj ui x y t l at n z v =
    let ji = other_place (j ≡ i) s p (step (suc b) cj) (step 0 ci) (λ e. omega (arith, e)) y in
    let ki = other_place (k ≡ i) q p (step (suc a) ck) (step 0 ci) (λ e. omega (arith, e)) t in
    apart_far i j k (field m r h fs) (suc a) (suc b) 0 q s p ck cj ci G ok oj oi uk uj ui x ki.1 ji.1 (far_of s p b 0 cj ci ji) l at n z v
through_fresh i j m r h fs s p cj ci f g k q ck (suc a) (suc b) (suc d) G ok oj oi uk uj ui x y t l at n z v =
    let w : FirstSlot r h fs n = first_of_node m r h fs n z in
    two_later m r h fs G l at n i j k q s p ck cj ci z b d oj oi (far_quiet m r h fs G l at n k a ck q ok)
    (λ v. g k q ck a b d (later_picks G) (only_beside k a ck q G ok) (only_beside j b cj s G oj) (only_beside i d ci p G oi) uk uj ui (before_below (k ≡ j) q s a b ck cj x) (before_below (j ≡ i) s p b d cj ci y) (before_below (k ≡ i) q p a d ck ci t)
    (l + (repetition_count r + shape_repeated_fields h)) at (other_slots n) w.3 v) v

leaf_same : (E : Type 0) → Together E (Unit {0}) [] [] → E
leaf_same E (same_leaf x) = x

group_before : (E : Type 0) (s t : Step) (q p : List Step) → Together E (Unit {0}) (s ∷ q) (t ∷ p) → Before E q p s t
group_before E _ _ _ _ (along a c e q p t) = inl (refl, t)
group_before E _ _ _ _ (apart s t q p b x) = inr x

group_fresh : (i j k : ℕ) (fs : Fields) (sk sj si : Step) (q s p : List Step) → FieldsFresh i j k q s p sk.repetition sj.repetition si.repetition fs → ShapeFresh i j k (sk ∷ q) (sj ∷ s) (si ∷ p) (group fs)
group_fresh i j k fs sk sj si q s p f G ok oj oi uk uj ui x y t l at None z v =
    f sk.place sj.place si.place G ok oj oi uk uj ui (group_before (k ≡ j) sk sj q s x) (group_before (j ≡ i) sj si s p y) (group_before (k ≡ i) sk si q p t) l at no_slots (inl refl) v
group_fresh i j k fs sk sj si q s p f G ok oj oi uk uj ui x y t l at (Some (atom w)) z v = absurd (true≢false (sym z))
group_fresh i j k fs sk sj si q s p f G ok oj oi uk uj ui x y t l at (Some (inner n)) z v =
    f sk.place sj.place si.place G ok oj oi uk uj ui (group_before (k ≡ j) sk sj q s x) (group_before (j ≡ i) sj si s p y) (group_before (k ≡ i) sk si q p t) l at n (inr z) v

mutual
  fields_fresh : (i j : ℕ) (fs : Fields) (s p : List Step) (cj ci : Repetition) (k : ℕ) (q : List Step) (ck : Repetition) → FieldsFresh i j k q s p ck cj ci fs
  fields_fresh i j no_fields s p cj ci k q ck a b d G ok oj oi uk uj ui x y t l at n z v = absurd (true≢false (sym uk))
  fields_fresh i j (field m r h fs) s p cj ci k q ck a b d G ok oj oi uk uj ui x y t l at n z v =
      through_fresh i j m r h fs s p cj ci (λ k q G ok oj oi uk uj ui x y t l at u z v. shape_fresh i j h s p k q G ok oj oi uk uj ui x y t l at u z v)
      (λ k q ck a b d G ok oj oi uk uj ui x y t l at n z v. fields_fresh i j fs s p cj ci k q ck a b d G ok oj oi uk uj ui x y t l at n z v) k q ck a b d G ok oj oi uk uj ui x y t l at n z v

  pub shape_fresh : (i j : ℕ) (h : Shape) (s p : List Step) (k : ℕ) (q : List Step) → ShapeFresh i j k q s p h
  shape_fresh i j (leaf w) [] [] k q G ok oj oi uk uj ui x y t l at u z v = same_fresh i j k v (moves_in (shape_near_moves (leaf w) G) (shape_far_moves (leaf w) G l) at u) (leaf_same (j ≡ i) y)
  shape_fresh i j (leaf w) (e ∷ s) p k q G ok oj oi uk uj ui x y t l at u z v = absurd (true≢false (sym uj))
  shape_fresh i j (leaf w) [] (e ∷ p) k q G ok oj oi uk uj ui x y t l at u z v = absurd (true≢false (sym ui))
  shape_fresh i j (group fs) (sj ∷ s) (si ∷ p) k (sk ∷ q) G ok oj oi uk uj ui x y t l at u z v =
      group_fresh i j k fs sk sj si q s p (λ a b d G ok oj oi uk uj ui x y t l at n z v. fields_fresh i j fs s p sj.repetition si.repetition k q sk.repetition a b d G ok oj oi uk uj ui x y t l at n z v) G ok oj oi uk uj ui x y t l at u z v
  shape_fresh i j (group fs) [] p k q G ok oj oi uk uj ui x y t l at u z v = absurd (no_path fs uj)
  shape_fresh i j (group fs) (sj ∷ s) [] k q G ok oj oi uk uj ui x y t l at u z v = absurd (no_path fs ui)
  shape_fresh i j (group fs) (sj ∷ s) (si ∷ p) k [] G ok oj oi uk uj ui x y t l at u z v = absurd (no_path fs uk)

-- in the walk of a record
pub record_fresh : (fs : Fields) (F : List (List Step)) (i j k : ℕ) (p s q : List Step) (n : Node) (v : Bool) → slice_get F i ≡ Some p → slice_get F j ≡ Some s → slice_get F k ≡ Some q
    → is_leaf_path fs p ≡ true → is_leaf_path fs s ≡ true → is_leaf_path fs q ≡ true → is_record fs n ≡ true → Together (k ≡ j) (Unit {0}) q s → Together (j ≡ i) (Unit {0}) s p → Together (k ≡ i) (Unit {0}) q p
    → Fresh i j k v (record_moves fs F n)
record_fresh fs F i j k p s q n v ei ej ek ui uj uk z x y t =
    fresh_append i j k v (near_moves fs (picks F) top n ++ far_moves fs (picks F) 1 top n) (leave 0 ∷ [])
    (shape_fresh i j (group fs) s p k q (picks F) (selected_only F k q ek) (selected_only F j s ej) (selected_only F i p ei) uk uj ui x y t 1 top (Some (inner n)) z v) tt

pub walk_fresh : (fs : Fields) (F : List (List Step)) (i j k : ℕ) (p s q : List Step) → slice_get F i ≡ Some p → slice_get F j ≡ Some s → slice_get F k ≡ Some q
    → is_leaf_path fs p ≡ true → is_leaf_path fs s ≡ true → is_leaf_path fs q ≡ true → Together (k ≡ j) (Unit {0}) q s → Together (j ≡ i) (Unit {0}) s p → Together (k ≡ i) (Unit {0}) q p
    → (R : List Node) → list_all (is_record fs) R ≡ true → (v : Bool) → Fresh i j k v (walk fs F R)
unfolding walk
walk_fresh fs F i j k p s q ei ej ek ui uj uk x y t [] z v = tt
walk_fresh fs F i j k p s q ei ej ek ui uj uk x y t (n ∷ R) z v =
    let b : (is_record fs n ≡ true) × (list_all (is_record fs) R ≡ true) = and_parts (is_record fs n) (list_all (is_record fs) R) z in
    fresh_append i j k v (record_moves fs F n) (flat_map (record_moves fs F) R) (record_fresh fs F i j k p s q n v ei ej ek ui uj uk b.0 x y t)
    (walk_fresh fs F i j k p s q ei ej ek ui uj uk x y t R b.1 (fresh_after j k v (record_moves fs F n)))
