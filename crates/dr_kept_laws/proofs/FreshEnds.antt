-- Behind the leaves of a level, a leaf that is read together with a later one was not read since that one was.
use Rattle.std.proofs.Common.{◌≡◌, ◌⊎◌, inl, inr, ℕ, zero, suc, ◌+◌, ◌<◌, List, [], ◌∷◌, Bool, true, false, Option, None, Some, refl, sym, ap, subst, ◌∙◌, true≢false, arith}
use Rattle.std.specs.Prelude.{◌==◌}
use Rattle.std.proofs.lemmas.Bool.{and_parts, eq-eqb, ne_eqb}
use Rattle.dr_meaning.specs.Schema.{Repetition, required, optional, repeated, Kind, Fields, no_fields, field, Shape, leaf, group, repetition_count}
use Rattle.dr_meaning.specs.Path.{Step, is_leaf_path, is_shape_path, same_repetition, max_repetition}
use Rattle.dr_meaning.specs.Record.{Node, no_slots, Instance, atom, inner}
use Rattle.dr_meaning.specs.Column.{triplet}
use Rattle.dr_meaning.specs.Automaton.{Pick, first_picks, later_picks}
use Rattle.dr_meaning.specs.Walk.{Depth, inside, first_of, first_slot, other_slots, value_there, near_moves, shape_near_moves}
use Rattle.dr_meaning.proofs.ProjectionLemmas.{step}
use Rattle.dr_meaning.proofs.Blocks.{same_repetition-true}
use Rattle.dr_meaning.proofs.WalkLemmas.{Only, only_behind, only_beside, beside_first, near_nothing, near_in, leaf_only, IsNode, IsThere, FirstSlot, first_of_node}
use Rattle.dr_kept_laws.proofs.FreshLemmas.{fresh_after, after_append, untouched, ends_fresh}
use Rattle.dr_moves.specs.Together.{IsApart, Together, same_leaf, along, apart}
use Rattle.dr_moves.proofs.NearLemmas.{first_there, fields_once}

-- two leaves of a group, the first read before the other, or both through the same field
abbrev pub Before : Type 0 → List Step → List Step → Step → Step → Type 0
Before E q p s t = ((s.place ≡ t.place) × Together E (Unit {0}) q p) ⊎ IsApart s t q p

pub before_below : (E : Type 0) (q p : List Step) (a b : ℕ) (c e : Repetition) → Before E q p (step (suc a) c) (step (suc b) e) → Before E q p (step a c) (step b e)
before_below E q p a b c e (inl h) = let x : a ≡ b = omega (arith, h.0) in inl (x, h.1)
before_below E q p a b c e (inr h) = inr (unequal, h.1, by_case h.2)
  where
    unequal : (a == b) ≡ false
    unequal = ne_eqb a b (λ x. true≢false (sym (eq-eqb (suc a) (suc b) (ap suc x)) ∙ h.0))

    by_case : (0 < max_repetition (step (suc b) e ∷ p)) ⊎ ((suc a < suc b) × (max_repetition (step (suc b) e ∷ p) ≡ 0)) → (0 < max_repetition (step b e ∷ p)) ⊎ ((a < b) × (max_repetition (step b e ∷ p) ≡ 0))
    by_case (inl x) = inl x
    by_case (inr x) = inr (omega (arith, x.0), x.1)

-- through different fields
pub other_place : (E : Type 0) (q p : List Step) (s t : Step) → (s.place ≡ t.place → ⊥) → Before E q p s t → IsApart s t q p
other_place E q p s t n (inl h) = absurd (n h.0)
other_place E q p s t n (inr h) = h

-- ---- behind the leaves of a level

abbrev ShapeEnds : ℕ → ℕ → List Step → List Step → Shape → Type 0
ShapeEnds j k q p h = (G : List Pick) → Only k q G → Only j p G → is_shape_path h q ≡ true → is_shape_path h p ≡ true → Together (k ≡ j) (Unit {0}) q p → max_repetition q ≡ 0 → max_repetition p ≡ 0 → (at : Depth) (x : Option Instance) → IsThere h x
    → (v : Bool) → fresh_after j k v (shape_near_moves h G at x) ≡ true

abbrev FieldsEnd : ℕ → ℕ → List Step → List Step → Repetition → Repetition → Fields → Type 0
FieldsEnd j k q p c e fs = (a b : ℕ) (G : List Pick) → Only k (step a c ∷ q) G → Only j (step b e ∷ p) G → is_leaf_path fs (step a c ∷ q) ≡ true → is_leaf_path fs (step b e ∷ p) ≡ true → Before (k ≡ j) q p (step a c) (step b e)
    → max_repetition (step a c ∷ q) ≡ 0 → max_repetition (step b e ∷ p) ≡ 0 → (at : Depth) (n : Node) → IsNode fs n → (v : Bool) → fresh_after j k v (near_moves fs G at n) ≡ true

-- in a first field
pub near_ends : (j k : ℕ) (q p : List Step) (r : Repetition) (h : Shape) → ShapeEnds j k q p h → (G : List Pick) → Only k q G → Only j p G → is_shape_path h q ≡ true → is_shape_path h p ≡ true → Together (k ≡ j) (Unit {0}) q p → max_repetition q ≡ 0
    → repetition_count r + max_repetition p ≡ 0 → (at : Depth) (n : Node) → IsThere h (first_of (first_slot n)) → (v : Bool) → fresh_after j k v (near_in r h G at n) ≡ true
near_ends j k q p required h f G ok oj uk uj t zk zj at n x v = f G ok oj uk uj t zk (omega (arith, zj)) (inside required at (first_of (first_slot n))) (first_of (first_slot n)) x v
near_ends j k q p optional h f G ok oj uk uj t zk zj at n x v = f G ok oj uk uj t zk (omega (arith, zj)) (inside optional at (first_of (first_slot n))) (first_of (first_slot n)) x v
near_ends j k q p repeated h f G ok oj uk uj t zk zj at n x v = absurd (omega (arith, zj))

through_end : (j k : ℕ) (m : List ℕ) (r : Repetition) (h : Shape) (fs : Fields) (q p : List Step) (c e : Repetition) → ShapeEnds j k q p h → FieldsEnd j k q p c e fs → FieldsEnd j k q p c e (field m r h fs)
through_end j k m r h fs q p c e f g zero zero G ok oj uk uj (inl x) zk zj at n z v =
    let A = near_in r h (first_picks G) at n in
    let B = near_moves fs (later_picks G) at (other_slots n) in
    let sk : (same_repetition c r ≡ true) × (is_shape_path h q ≡ true) = and_parts _ _ uk in
    let sj : (same_repetition e r ≡ true) × (is_shape_path h p ≡ true) = and_parts _ _ uj in
    let s : FirstSlot r h fs n = first_of_node m r h fs n z in
    let zq : max_repetition q ≡ 0 = omega (arith, zk) in
    after_append j k v A B ∙ untouched j k (fresh_after j k v A) B (near_nothing j fs (later_picks G) at (other_slots n) (beside_first j e p G oj)) (near_nothing k fs (later_picks G) at (other_slots n) (beside_first k c q G ok))
    ∙ near_ends j k q p r h f (first_picks G) (only_behind k c q G ok) (only_behind j e p G oj) sk.1 sj.1 x.1 zq
    (subst (λ (y : Repetition). repetition_count y + max_repetition p ≡ 0) (same_repetition-true e r sj.0) zj) at n (first_there h (first_slot n) s.1) v
through_end j k m r h fs q p c e f g zero zero G ok oj uk uj (inr x) zk zj at n z v = absurd (true≢false (sym (eq-eqb 0 0 refl) ∙ x.0))
through_end j k m r h fs q p c e f g zero (suc b) G ok oj uk uj x zk zj at n z v =
    let A = near_in r h (first_picks G) at n in
    let B = near_moves fs (later_picks G) at (other_slots n) in
    let s : FirstSlot r h fs n = first_of_node m r h fs n z in
    let w = fields_once j fs e p zj b (later_picks G) (only_beside j b e p G oj) uj at (other_slots n) s.3 in
    after_append j k v A B ∙ ends_fresh j k (fresh_after j k v A) B w.given w.once (inr (near_nothing k fs (later_picks G) at (other_slots n) (beside_first k c q G ok)))
through_end j k m r h fs q p c e f g (suc a) zero G ok oj uk uj x zk zj at n z v = absurd (never (other_place (k ≡ j) q p (step (suc a) c) (step 0 e) (λ y. omega (arith, y)) x).2)
  where
    never : (0 < max_repetition (step 0 e ∷ p)) ⊎ ((suc a < 0) × (max_repetition (step 0 e ∷ p) ≡ 0)) → ⊥
    never (inl y) = omega (arith, y, zj)
    never (inr y) = omega (arith, y.0)
through_end j k m r h fs q p c e f g (suc a) (suc b) G ok oj uk uj x zk zj at n z v =
    let A = near_in r h (first_picks G) at n in
    let B = near_moves fs (later_picks G) at (other_slots n) in
    let s : FirstSlot r h fs n = first_of_node m r h fs n z in
    after_append j k v A B ∙ g a b (later_picks G) (only_beside k a c q G ok) (only_beside j b e p G oj) uk uj (before_below (k ≡ j) q p a b c e x) zk zj at (other_slots n) s.3 (fresh_after j k v A)

leaf_ends : (j k : ℕ) → k ≡ j → (w : Kind) → ShapeEnds j k [] [] (leaf w)
leaf_ends j k e w G ok oj uk uj t zk zj at x z v = ends_fresh j k v (shape_near_moves (leaf w) G at x) (triplet at.repetition at.definition (value_there x)) (leaf_only j [] G (triplet at.repetition at.definition (value_there x)) oj) (inl e)

group_ends : (j k : ℕ) (s t : Step) (q p : List Step) (fs : Fields) → FieldsEnd j k q p s.repetition t.repetition fs → Before (k ≡ j) q p s t → ShapeEnds j k (s ∷ q) (t ∷ p) (group fs)
group_ends j k s t q p fs f y G ok oj uk uj o zk zj at None z v = f s.place t.place G ok oj uk uj y zk zj at no_slots (inl refl) v
group_ends j k s t q p fs f y G ok oj uk uj o zk zj at (Some (atom w)) z v = absurd (true≢false (sym z))
group_ends j k s t q p fs f y G ok oj uk uj o zk zj at (Some (inner n)) z v = f s.place t.place G ok oj uk uj y zk zj at n (inr z) v

mutual
  pub fields_end : (j k : ℕ) (fs : Fields) (q p : List Step) (c e : Repetition) → FieldsEnd j k q p c e fs
  fields_end j k no_fields q p c e a b G ok oj uk uj x zk zj at n z v = absurd (true≢false (sym uk))
  fields_end j k (field m r h fs) q p c e a b G ok oj uk uj x zk zj at n z v =
      through_end j k m r h fs q p c e (λ G ok oj uk uj t zk zj at y z v. shape_ends j k h q p G ok oj uk uj t zk zj at y z v) (λ a b G ok oj uk uj x zk zj at n z v. fields_end j k fs q p c e a b G ok oj uk uj x zk zj at n z v) a b G ok oj uk uj x zk zj at n z v

  pub shape_ends : (j k : ℕ) (h : Shape) (q p : List Step) → ShapeEnds j k q p h
  shape_ends j k (leaf w) _ _ G ok oj uk uj (same_leaf x) zk zj at y z v = leaf_ends j k x w G ok oj uk uj (same_leaf x) zk zj at y z v
  shape_ends j k (leaf w) _ _ G ok oj uk uj (along a c e q p t) zk zj at y z v = absurd (true≢false (sym uk))
  shape_ends j k (leaf w) _ _ G ok oj uk uj (apart s t q p b x) zk zj at y z v = absurd (true≢false (sym uk))
  shape_ends j k (group no_fields) _ _ G ok oj uk uj (same_leaf x) zk zj at y z v = absurd (true≢false (sym uk))
  shape_ends j k (group (field m r h fs)) _ _ G ok oj uk uj (same_leaf x) zk zj at y z v = absurd (true≢false (sym uk))
  shape_ends j k (group fs) _ _ G ok oj uk uj (along a c e q p t) zk zj at y z v =
      group_ends j k (step a c) (step a e) q p fs (λ a b G ok oj uk uj x zk zj at n z v. fields_end j k fs q p c e a b G ok oj uk uj x zk zj at n z v) (inl (refl, t)) G ok oj uk uj (along a c e q p t) zk zj at y z v
  shape_ends j k (group fs) _ _ G ok oj uk uj (apart s t q p b x) zk zj at y z v =
      group_ends j k s t q p fs (λ a b G ok oj uk uj x zk zj at n z v. fields_end j k fs q p s.repetition t.repetition a b G ok oj uk uj x zk zj at n z v) (inr x) G ok oj uk uj (apart s t q p b x) zk zj at y z v
