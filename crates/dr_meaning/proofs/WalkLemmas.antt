-- The triplets of a selected leaf in the walk of records are its column.
use Rattle.std.proofs.Common.{◌≡◌, ◌⊎◌, inl, inr, ℕ, zero, suc, ◌+◌, ◌<◌, List, [], ◌∷◌, ◌++◌, Bool, true, false, ◌&&◌, Option, Some, None, refl, sym, ap, ap₂, ◌∙◌, subst, true≢false, arith, append-nil}
use Rattle.std.specs.Prelude.{◌==◌, if◌then◌else◌}
use Rattle.std.specs.List.{list_all, slice_get, flat_map}
use Rattle.std.proofs.lemmas.Bool.{and_parts, eq-eqb, ne_eqb, eqb-true, leb-true}
use Rattle.dr_meaning.specs.Schema.{Repetition, required, optional, repeated, Kind, Fields, no_fields, field, Shape, leaf, group, repetition_count, definition_count, shape_repeated_fields}
use Rattle.dr_meaning.specs.Path.{Step, is_leaf_path, is_shape_path, same_repetition, through}
use Rattle.dr_meaning.specs.Record.{Node, no_slots, slot, gap, Instances, no_instances, instance, Instance, atom, inner, count_instances, fits_repetition, all_instances, is_record, is_instance, instances_at}
use Rattle.dr_meaning.specs.Column.{Triplet, triplet, each_later, spread, instance_column, record_column}
use Rattle.dr_meaning.specs.Automaton.{Pick, picks_from, picks, first_picks_if, first_picks_and, first_picks, later_picks_if, later_picks_and, later_picks, indexes}
use Rattle.dr_meaning.specs.Walk.{Move, enter, value, leave, Depth, inside, begun_later, definition_in, first_of, first_slot, other_slots, node_of, value_there, triplet_moves, unless_repeated, enclosed, later_moves, repeated_moves, by_repetition, where_selected, moves_in, near_moves, far_moves, shape_near_moves, shape_far_moves, top, record_moves, walk}
use Rattle.dr_meaning.specs.WalkLaws.{triplets_of, WalkGivesColumns}
use Rattle.dr_meaning.proofs.Blocks.{same_repetition-true, and₃_parts}
use Rattle.dr_meaning.proofs.ProjectionLemmas.{step}

-- ---- triplets of moves

pub of_append : (i : ℕ) (ms ns : List Move) → triplets_of i (ms ++ ns) ≡ triplets_of i ms ++ triplets_of i ns
of_append i [] ns = refl
of_append i (enter k ∷ ms) ns = of_append i ms ns
of_append i (leave k ∷ ms) ns = of_append i ms ns
of_append i (value j t ∷ ms) ns = by_test (j == i) (of_append i ms ns)
  where
    by_test : (b : Bool) → triplets_of i (ms ++ ns) ≡ triplets_of i ms ++ triplets_of i ns → (if b then t ∷ triplets_of i (ms ++ ns) else triplets_of i (ms ++ ns)) ≡ (if b then t ∷ triplets_of i ms else triplets_of i ms) ++ triplets_of i ns
    by_test true e = ap (λ x. t ∷ x) e
    by_test false e = e

pub of_enclosed : (i k : ℕ) (ms : List Move) → triplets_of i (enclosed k ms) ≡ triplets_of i ms
of_enclosed i k ms = of_append i ms (leave k ∷ []) ∙ append-nil (triplets_of i ms)

-- ---- picks of one index

-- none of these picks has this index; one of them has, with this rest of its path
abbrev pub Without : ℕ → List Pick → Type 0
Without i [] = Unit {0}
Without i (g ∷ G) = ((g.index == i) ≡ false) × Without i G

abbrev pub Only : ℕ → List Step → List Pick → Type 0
Only i p [] = ⊥
Only i p (g ∷ G) = (((g.index == i) ≡ true) × (g.rest ≡ p) × Without i G) ⊎ (((g.index == i) ≡ false) × Only i p G)

-- a pick before the others that are behind, or beside
pub add_behind : (i : ℕ) (p : List Step) (j : ℕ) (B : List Pick) → (j == i) ≡ false → Without i B → Without i (first_picks_and p j B)
add_behind i [] j B e h = h
add_behind i (s ∷ p) j B e h = by_place s.place
  where
    by_place : (k : ℕ) → Without i (first_picks_if k p j B)
    by_place zero = (e, h)
    by_place (suc k) = h

pub add_beside : (i : ℕ) (p : List Step) (j : ℕ) (B : List Pick) → (j == i) ≡ false → Without i B → Without i (later_picks_and p j B)
add_beside i [] j B e h = h
add_beside i (s ∷ p) j B e h = by_place s.place
  where
    by_place : (k : ℕ) → Without i (later_picks_if k s p j B)
    by_place zero = h
    by_place (suc k) = (e, h)

pub without_behind : (i : ℕ) (G : List Pick) → Without i G → Without i (first_picks G)
without_behind i [] h = tt
without_behind i (g ∷ G) h = add_behind i g.rest g.index (first_picks G) h.0 (without_behind i G h.1)

pub without_beside : (i : ℕ) (G : List Pick) → Without i G → Without i (later_picks G)
without_beside i [] h = tt
without_beside i (g ∷ G) h = add_beside i g.rest g.index (later_picks G) h.0 (without_beside i G h.1)

pub keep_behind : (i : ℕ) (q p : List Step) (j : ℕ) (B : List Pick) → (j == i) ≡ false → Only i q B → Only i q (first_picks_and p j B)
keep_behind i q [] j B e h = h
keep_behind i q (s ∷ p) j B e h = by_place s.place
  where
    by_place : (k : ℕ) → Only i q (first_picks_if k p j B)
    by_place zero = inr (e, h)
    by_place (suc k) = h

pub keep_beside : (i : ℕ) (q p : List Step) (j : ℕ) (B : List Pick) → (j == i) ≡ false → Only i q B → Only i q (later_picks_and p j B)
keep_beside i q [] j B e h = h
keep_beside i q (s ∷ p) j B e h = by_place s.place
  where
    by_place : (k : ℕ) → Only i q (later_picks_if k s p j B)
    by_place zero = h
    by_place (suc k) = inr (e, h)

-- the pick goes through the first field
pub only_behind : (i : ℕ) (r : Repetition) (p : List Step) (G : List Pick) → Only i (step 0 r ∷ p) G → Only i p (first_picks G)
only_behind i r p [] h = absurd h
only_behind i r p (g ∷ G) (inl h) = subst (λ (x : List Step). Only i p (first_picks_and x g.index (first_picks G))) (sym h.1) (inl (h.0, refl, without_behind i G h.2))
only_behind i r p (g ∷ G) (inr h) = keep_behind i p g.rest g.index (first_picks G) h.0 (only_behind i r p G h.1)

pub beside_first : (i : ℕ) (r : Repetition) (p : List Step) (G : List Pick) → Only i (step 0 r ∷ p) G → Without i (later_picks G)
beside_first i r p [] h = absurd h
beside_first i r p (g ∷ G) (inl h) = subst (λ (x : List Step). Without i (later_picks_and x g.index (later_picks G))) (sym h.1) (without_beside i G h.2)
beside_first i r p (g ∷ G) (inr h) = add_beside i g.rest g.index (later_picks G) h.0 (beside_first i r p G h.1)

-- or through a later one
pub only_beside : (i j : ℕ) (r : Repetition) (p : List Step) (G : List Pick) → Only i (step (suc j) r ∷ p) G → Only i (step j r ∷ p) (later_picks G)
only_beside i j r p [] h = absurd h
only_beside i j r p (g ∷ G) (inl h) = subst (λ (x : List Step). Only i (step j r ∷ p) (later_picks_and x g.index (later_picks G))) (sym h.1) (inl (h.0, refl, without_beside i G h.2))
only_beside i j r p (g ∷ G) (inr h) = keep_beside i (step j r ∷ p) g.rest g.index (later_picks G) h.0 (only_beside i j r p G h.1)

pub behind_later : (i j : ℕ) (r : Repetition) (p : List Step) (G : List Pick) → Only i (step (suc j) r ∷ p) G → Without i (first_picks G)
behind_later i j r p [] h = absurd h
behind_later i j r p (g ∷ G) (inl h) = subst (λ (x : List Step). Without i (first_picks_and x g.index (first_picks G))) (sym h.1) (without_behind i G h.2)
behind_later i j r p (g ∷ G) (inr h) = add_behind i g.rest g.index (first_picks G) h.0 (behind_later i j r p G h.1)

pub leaf_without : (i : ℕ) (G : List Pick) (t : Triplet) → Without i G → triplets_of i (triplet_moves (indexes G) t) ≡ []
leaf_without i [] t h = refl
leaf_without i (g ∷ G) t h = rw h.0 (leaf_without i G t h.1)

pub leaf_only : (i : ℕ) (p : List Step) (G : List Pick) (t : Triplet) → Only i p G → triplets_of i (triplet_moves (indexes G) t) ≡ t ∷ []
leaf_only i p [] t h = absurd h
leaf_only i p (g ∷ G) t (inl h) = rw h.0 (ap (λ x. t ∷ x) (leaf_without i G t h.2))
leaf_only i p (g ∷ G) t (inr h) = rw h.0 (leaf_only i p G t h.1)

pub picks_without : (i k : ℕ) (F : List (List Step)) → i < k → Without i (picks_from k F)
picks_without i k [] h = tt
picks_without i k (p ∷ F) h = (ne_eqb k i (omega (arith, h)), picks_without i (suc k) F (omega (arith, h)))

pub picks_only : (i k : ℕ) (p : List Step) (F : List (List Step)) → slice_get F i ≡ Some p → Only (k + i) p (picks_from k F)
picks_only i k p [] h = absurd (cc)
picks_only zero k p (q ∷ F) h = inl (eq-eqb k (k + 0) (omega arith), same q h, picks_without (k + 0) (suc k) F (omega arith))
  where
    same : (q : List Step) → Some q ≡ Some p → q ≡ p
    same q e = cc
picks_only (suc i) k p (q ∷ F) h =
    let e : suc k + i ≡ k + suc i = omega arith in
    inr (ne_eqb k (k + suc i) (omega arith), subst (λ (x : ℕ). Only x p (picks_from (suc k) F)) e (picks_only i (suc k) p F h))

-- ---- nothing of a leaf that isn't below

pub nothing_before : (i : ℕ) (ms ns : List Move) (ts : List Triplet) → triplets_of i ms ≡ [] → triplets_of i ns ≡ ts → triplets_of i (ms ++ ns) ≡ ts
nothing_before i ms ns ts h g = of_append i ms ns ∙ ap₂ (λ x y. x ++ y) h g

pub nothing_behind : (i : ℕ) (ms ns : List Move) (ts : List Triplet) → triplets_of i ms ≡ ts → triplets_of i ns ≡ [] → triplets_of i (ms ++ ns) ≡ ts
nothing_behind i ms ns ts h g = of_append i ms ns ∙ ap₂ (λ x y. x ++ y) h g ∙ append-nil ts

pub unless_nothing : (i : ℕ) (r : Repetition) (ms : List Move) → triplets_of i ms ≡ [] → triplets_of i (unless_repeated r ms) ≡ []
unless_nothing i required ms h = h
unless_nothing i optional ms h = h
unless_nothing i repeated ms h = refl

pub where_nothing : (i : ℕ) (B : List Pick) (ms : List Move) → triplets_of i ms ≡ [] → triplets_of i (where_selected B ms) ≡ []
where_nothing i [] ms h = refl
where_nothing i (b ∷ B) ms h = h

pub later_nothing : (i k : ℕ) (f : Option Instance → List Move) → ((x : Option Instance) → triplets_of i (f x) ≡ []) → (xs : Instances) → triplets_of i (later_moves k f xs) ≡ []
later_nothing i k f h no_instances = refl
later_nothing i k f h (instance x xs) = nothing_before i (enclosed k (f (Some x))) (later_moves k f xs) [] (of_enclosed i k (f (Some x)) ∙ h (Some x)) (later_nothing i k f h xs)

pub repeated_nothing : (i k : ℕ) (f g : Option Instance → List Move) → ((x : Option Instance) → triplets_of i (f x) ≡ []) → ((x : Option Instance) → triplets_of i (g x) ≡ []) → (xs : Instances) → triplets_of i (repeated_moves k f g xs) ≡ []
repeated_nothing i k f g h e no_instances = h None
repeated_nothing i k f g h e (instance x xs) = nothing_before i (enclosed k (f (Some x))) (later_moves k g xs) [] (of_enclosed i k (f (Some x)) ∙ h (Some x)) (later_nothing i k g e xs)

pub by_nothing : (i : ℕ) (r : Repetition) (f : Instances → List Move) (g : Option Instance → List Move) (xs : Instances) → triplets_of i (f xs) ≡ [] → ((x : Option Instance) → triplets_of i (g x) ≡ []) → triplets_of i (by_repetition r f g xs) ≡ []
by_nothing i required f g xs h e = e (first_of xs)
by_nothing i optional f g xs h e = e (first_of xs)
by_nothing i repeated f g xs h e = h

-- the moves of a level's own leaves in a field, and of the repeated fields in it
abbrev pub near_in : Repetition → Shape → List Pick → Depth → Node → List Move
near_in r s G at n = unless_repeated r (shape_near_moves s G (inside r at (first_of (first_slot n))) (first_of (first_slot n)))

abbrev pub instance_moves : Repetition → Shape → List Pick → ℕ → Depth → Option Instance → List Move
instance_moves r s G k at x = moves_in (shape_near_moves s G) (shape_far_moves s G (suc k)) (inside r at x) x

abbrev pub far_in : Repetition → Shape → List Pick → ℕ → Depth → Node → List Move
far_in r s G k at n = where_selected G (by_repetition r (repeated_moves k (instance_moves r s G k at) (instance_moves r s G k (begun_later at))) (λ x. shape_far_moves s G k (inside r at x) x) (first_slot n))

pub far_in_nothing : (i : ℕ) (r : Repetition) (s : Shape) (G : List Pick) (k : ℕ) (at : Depth) (n : Node) → ((d : Depth) (x : Option Instance) → triplets_of i (shape_near_moves s G d x) ≡ []) → ((j : ℕ) (d : Depth) (x : Option Instance) → triplets_of i (shape_far_moves s G j d x) ≡ []) → triplets_of i (far_in r s G k at n) ≡ []
far_in_nothing i r s G k at n h g =
    where_nothing i G (by_repetition r (repeated_moves k (instance_moves r s G k at) (instance_moves r s G k (begun_later at))) (λ x. shape_far_moves s G k (inside r at x) x) (first_slot n))
    (by_nothing i r (repeated_moves k (instance_moves r s G k at) (instance_moves r s G k (begun_later at))) (λ x. shape_far_moves s G k (inside r at x) x) (first_slot n)
    (repeated_nothing i k (instance_moves r s G k at) (instance_moves r s G k (begun_later at)) (nothing at) (nothing (begun_later at)) (first_slot n))
    (λ x. g k (inside r at x) x))
  where
    nothing : (d : Depth) (x : Option Instance) → triplets_of i (instance_moves r s G k d x) ≡ []
    nothing d x = nothing_before i (shape_near_moves s G (inside r d x) x) (shape_far_moves s G (suc k) (inside r d x) x) [] (h (inside r d x) x) (g (suc k) (inside r d x) x)

mutual
  pub near_nothing : (i : ℕ) (fs : Fields) (G : List Pick) (at : Depth) (n : Node) → Without i G → triplets_of i (near_moves fs G at n) ≡ []
  near_nothing i no_fields G at n h = refl
  near_nothing i (field m r s fs) G at n h =
      nothing_before i (unless_repeated r (shape_near_moves s (first_picks G) (inside r at (first_of (first_slot n))) (first_of (first_slot n)))) (near_moves fs (later_picks G) at (other_slots n)) []
      (unless_nothing i r (shape_near_moves s (first_picks G) (inside r at (first_of (first_slot n))) (first_of (first_slot n))) (shape_near_nothing i s (first_picks G) (inside r at (first_of (first_slot n))) (first_of (first_slot n)) (without_behind i G h)))
      (near_nothing i fs (later_picks G) at (other_slots n) (without_beside i G h))

  pub far_nothing : (i : ℕ) (fs : Fields) (G : List Pick) (k : ℕ) (at : Depth) (n : Node) → Without i G → triplets_of i (far_moves fs G k at n) ≡ []
  far_nothing i no_fields G k at n h = refl
  far_nothing i (field m r s fs) G k at n h =
      nothing_before i (far_in r s (first_picks G) k at n) (far_moves fs (later_picks G) (k + (repetition_count r + shape_repeated_fields s)) at (other_slots n)) []
      (far_in_nothing i r s (first_picks G) k at n (λ d x. shape_near_nothing i s (first_picks G) d x (without_behind i G h)) (λ j d x. shape_far_nothing i s (first_picks G) j d x (without_behind i G h)))
      (far_nothing i fs (later_picks G) (k + (repetition_count r + shape_repeated_fields s)) at (other_slots n) (without_beside i G h))

  pub shape_near_nothing : (i : ℕ) (s : Shape) (G : List Pick) (at : Depth) (x : Option Instance) → Without i G → triplets_of i (shape_near_moves s G at x) ≡ []
  shape_near_nothing i (leaf k) G at x h = leaf_without i G (triplet at.repetition at.definition (value_there x)) h
  shape_near_nothing i (group fs) G at x h = near_nothing i fs G at (node_of x) h

  pub shape_far_nothing : (i : ℕ) (s : Shape) (G : List Pick) (k : ℕ) (at : Depth) (x : Option Instance) → Without i G → triplets_of i (shape_far_moves s G k at x) ≡ []
  shape_far_nothing i (leaf j) G k at x h = refl
  shape_far_nothing i (group fs) G k at x h = far_nothing i fs G k at (node_of x) h

-- ---- the column of the one that is

-- what an instance, or its absence, has of a path
abbrev pub optional_column : List Step → ℕ → ℕ → ℕ → Option Instance → List Triplet
optional_column p l d r None = triplet r d None ∷ []
optional_column p l d r (Some x) = instance_column p l d r x

abbrev pub IsThere : Shape → Option Instance → Type 0
IsThere s None = Unit {0}
IsThere s (Some x) = is_instance s x ≡ true

abbrev pub IsNode : Fields → Node → Type 0
IsNode fs n = (n ≡ no_slots) ⊎ (is_record fs n ≡ true)

-- a shape gives its column, beside what is near and what is far
abbrev pub Gives : ℕ → List Step → Shape → List Pick → Type 0
Gives i p s G = (k : ℕ) (at : Depth) (x : Option Instance) → IsThere s x → triplets_of i (shape_near_moves s G at x) ++ triplets_of i (shape_far_moves s G k at x) ≡ optional_column p at.level at.definition at.repetition x

pub selected : (i : ℕ) (p : List Step) (B : List Pick) (ms : List Move) → Only i p B → where_selected B ms ≡ ms
selected i p [] ms h = absurd h
selected i p (b ∷ B) ms h = refl

pub instance_gives : (i : ℕ) (p : List Step) (r : Repetition) (s : Shape) (G : List Pick) → Gives i p s G → (k : ℕ) (at : Depth) (x : Option Instance) → IsThere s x → triplets_of i (instance_moves r s G k at x) ≡ optional_column p (at.level + repetition_count r) (definition_in r at.definition x) at.repetition x
instance_gives i p r s G g k at x h = of_append i (shape_near_moves s G (inside r at x) x) (shape_far_moves s G (suc k) (inside r at x) x) ∙ g (suc k) (inside r at x) x h

pub later_gives : (i : ℕ) (p : List Step) (s : Shape) (G : List Pick) → Gives i p s G → (k : ℕ) (at : Depth) (xs : Instances) → all_instances (is_instance s) xs ≡ true
    → triplets_of i (later_moves k (instance_moves repeated s G k (begun_later at)) xs) ≡ each_later (instance_column p (at.level + 1) (at.definition + 1)) (at.level + 1) xs
later_gives i p s G g k at no_instances h = refl
later_gives i p s G g k at (instance x xs) h =
    let a : (is_instance s x ≡ true) × (all_instances (is_instance s) xs ≡ true) = and_parts _ _ h in
    let e : suc at.level ≡ at.level + 1 = omega arith in
    of_append i (enclosed k (instance_moves repeated s G k (begun_later at) (Some x))) (later_moves k (instance_moves repeated s G k (begun_later at)) xs)
    ∙ ap₂ (λ a b. a ++ b)
    (of_enclosed i k (instance_moves repeated s G k (begun_later at) (Some x)) ∙ instance_gives i p repeated s G g k (begun_later at) (Some x) a.0 ∙ ap (λ (q : ℕ). instance_column p (at.level + 1) (at.definition + 1) q x) e)
    (later_gives i p s G g k at xs a.1)

pub field_gives : (i : ℕ) (p : List Step) (r : Repetition) (s : Shape) (G : List Pick) → Only i p G → Gives i p s G → (k : ℕ) (at : Depth) (n : Node) (xs : Instances) → first_slot n ≡ xs → (xs ≡ no_instances) ⊎ (fits_repetition r (count_instances xs) ≡ true) → all_instances (is_instance s) xs ≡ true
    → triplets_of i (near_in r s G at n) ++ triplets_of i (far_in r s G k at n) ≡ spread (instance_column p (at.level + repetition_count r) (at.definition + definition_count r)) (at.level + repetition_count r) at.definition at.repetition xs
field_gives i p required s G o g k at n no_instances e f a = rw (e, selected i p G (shape_far_moves s G k (inside required at None) None) o) (g k (inside required at None) None tt)
field_gives i p optional s G o g k at n no_instances e f a = rw (e, selected i p G (shape_far_moves s G k (inside optional at None) None) o) (g k (inside optional at None) None tt)
field_gives i p repeated s G o g k at n no_instances e f a = rw (e, selected i p G (instance_moves repeated s G k at None) o) (instance_gives i p repeated s G g k at None tt)
field_gives i p required s G o g k at n (instance x no_instances) e f a = rw (e, selected i p G (shape_far_moves s G k (inside required at (Some x)) (Some x)) o) (g k (inside required at (Some x)) (Some x) (and_parts _ _ a).0 ∙ sym (append-nil (instance_column p (at.level + 0) (at.definition + 0) at.repetition x)))
field_gives i p optional s G o g k at n (instance x no_instances) e f a = rw (e, selected i p G (shape_far_moves s G k (inside optional at (Some x)) (Some x)) o) (g k (inside optional at (Some x)) (Some x) (and_parts _ _ a).0 ∙ sym (append-nil (instance_column p (at.level + 0) (at.definition + 1) at.repetition x)))
field_gives i p required s G o g k at n (instance x (instance y ys)) e (inl f) a = absurd (cc)
field_gives i p required s G o g k at n (instance x (instance y ys)) e (inr f) a = absurd (omega (arith, eqb-true _ _ f))
field_gives i p optional s G o g k at n (instance x (instance y ys)) e (inl f) a = absurd (cc)
field_gives i p optional s G o g k at n (instance x (instance y ys)) e (inr f) a = absurd (omega (arith, leb-true _ _ f))
field_gives i p repeated s G o g k at n (instance x xs) e f a =
    let b : (is_instance s x ≡ true) × (all_instances (is_instance s) xs ≡ true) = and_parts _ _ a in
    rw (e, selected i p G (repeated_moves k (instance_moves repeated s G k at) (instance_moves repeated s G k (begun_later at)) (instance x xs)) o)
    (of_append i (enclosed k (instance_moves repeated s G k at (Some x))) (later_moves k (instance_moves repeated s G k (begun_later at)) xs)
    ∙ ap₂ (λ a b. a ++ b) (of_enclosed i k (instance_moves repeated s G k at (Some x)) ∙ instance_gives i p repeated s G g k at (Some x) b.0) (later_gives i p s G g k at xs b.1))

-- what is known of a node's first field, and of the others
abbrev pub FirstSlot : Repetition → Shape → Fields → Node → Type 0
FirstSlot r s fs n =
    ((first_slot n ≡ no_instances) ⊎ (fits_repetition r (count_instances (first_slot n)) ≡ true)) × (all_instances (is_instance s) (first_slot n) ≡ true) × (instances_at 0 n ≡ first_slot n)
    × IsNode fs (other_slots n) × ((j : ℕ) → instances_at (suc j) n ≡ instances_at j (other_slots n))

pub no_slot : (xs : Instances) (n : Node) → slot xs n ≡ no_slots → ⊥
no_slot xs n e = cc

pub no_gap : (n : Node) → gap n ≡ no_slots → ⊥
no_gap n e = cc

pub first_of_node : (m : List ℕ) (r : Repetition) (s : Shape) (fs : Fields) (n : Node) → IsNode (field m r s fs) n → FirstSlot r s fs n
first_of_node m r s fs no_slots h = (inl refl, refl, refl, inl refl, λ j. refl)
first_of_node m r s fs (gap n) (inl e) = absurd (no_gap n e)
first_of_node m r s fs (gap n) (inr v) = absurd (true≢false (sym v))
first_of_node m r s fs (slot xs n) (inl e) = absurd (no_slot xs n e)
first_of_node m r s fs (slot xs n) (inr v) =
    let k : (fits_repetition r (count_instances xs) ≡ true) × (all_instances (is_instance s) xs ≡ true) × (is_record fs n ≡ true) = and₃_parts _ _ _ v in
    (inr k.0, k.1, refl, inr k.2, λ j. refl)

abbrev pub FieldsGive : ℕ → Fields → ℕ → Repetition → List Step → List Pick → Type 0
FieldsGive i fs j q p G = (k : ℕ) (at : Depth) (n : Node) → IsNode fs n
    → triplets_of i (near_moves fs G at n) ++ triplets_of i (far_moves fs G k at n) ≡ spread (instance_column p (at.level + repetition_count q) (at.definition + definition_count q)) (at.level + repetition_count q) at.definition at.repetition (instances_at j n)

pub first_gives : (i : ℕ) (m : List ℕ) (r : Repetition) (s : Shape) (fs : Fields) (p : List Step) (G : List Pick) → Only i (step 0 r ∷ p) G → Gives i p s (first_picks G) → FieldsGive i (field m r s fs) 0 r p G
first_gives i m r s fs p G o g k at n h =
    let f : FirstSlot r s fs n = first_of_node m r s fs n h in
    let w : Without i (later_picks G) = beside_first i r p G o in
    ap₂ (λ a b. a ++ b)
    (nothing_behind i (near_in r s (first_picks G) at n) (near_moves fs (later_picks G) at (other_slots n)) (triplets_of i (near_in r s (first_picks G) at n)) refl (near_nothing i fs (later_picks G) at (other_slots n) w))
    (nothing_behind i (far_in r s (first_picks G) k at n) (far_moves fs (later_picks G) (k + (repetition_count r + shape_repeated_fields s)) at (other_slots n)) (triplets_of i (far_in r s (first_picks G) k at n)) refl (far_nothing i fs (later_picks G) (k + (repetition_count r + shape_repeated_fields s)) at (other_slots n) w))
    ∙ field_gives i p r s (first_picks G) (only_behind i r p G o) g k at n (first_slot n) refl f.0 f.1
    ∙ ap (spread (instance_column p (at.level + repetition_count r) (at.definition + definition_count r)) (at.level + repetition_count r) at.definition at.repetition) (sym f.2)

pub later_field_gives : (i : ℕ) (m : List ℕ) (r : Repetition) (s : Shape) (fs : Fields) (j : ℕ) (q : Repetition) (p : List Step) (G : List Pick) → Only i (step (suc j) q ∷ p) G → FieldsGive i fs j q p (later_picks G) → FieldsGive i (field m r s fs) (suc j) q p G
later_field_gives i m r s fs j q p G o g k at n h =
    let f : FirstSlot r s fs n = first_of_node m r s fs n h in
    let w : Without i (first_picks G) = behind_later i j q p G o in
    ap₂ (λ a b. a ++ b)
    (nothing_before i (near_in r s (first_picks G) at n) (near_moves fs (later_picks G) at (other_slots n)) (triplets_of i (near_moves fs (later_picks G) at (other_slots n)))
    (unless_nothing i r (shape_near_moves s (first_picks G) (inside r at (first_of (first_slot n))) (first_of (first_slot n))) (shape_near_nothing i s (first_picks G) (inside r at (first_of (first_slot n))) (first_of (first_slot n)) w)) refl)
    (nothing_before i (far_in r s (first_picks G) k at n) (far_moves fs (later_picks G) (k + (repetition_count r + shape_repeated_fields s)) at (other_slots n)) (triplets_of i (far_moves fs (later_picks G) (k + (repetition_count r + shape_repeated_fields s)) at (other_slots n)))
    (far_in_nothing i r s (first_picks G) k at n (λ d x. shape_near_nothing i s (first_picks G) d x w) (λ j d x. shape_far_nothing i s (first_picks G) j d x w)) refl)
    ∙ g (k + (repetition_count r + shape_repeated_fields s)) at (other_slots n) f.3
    ∙ ap (spread (instance_column p (at.level + repetition_count q) (at.definition + definition_count q)) (at.level + repetition_count q) at.definition at.repetition) (sym (f.4 j))

pub leaf_gives : (i : ℕ) (k : Kind) (G : List Pick) → Only i [] G → Gives i [] (leaf k) G
leaf_gives i k G o j at None h = append-nil _ ∙ leaf_only i [] G (triplet at.repetition at.definition None) o
leaf_gives i k G o j at (Some (atom v)) h = append-nil _ ∙ leaf_only i [] G (triplet at.repetition at.definition (Some v)) o
leaf_gives i k G o j at (Some (inner n)) h = absurd (true≢false (sym h))

pub group_gives : (i : ℕ) (fs : Fields) (t : Step) (p : List Step) (G : List Pick) → FieldsGive i fs t.place t.repetition p G → Gives i (t ∷ p) (group fs) G
group_gives i fs t p G g k at None h = g k at no_slots (inl refl)
group_gives i fs t p G g k at (Some (atom v)) h = absurd (true≢false (sym h))
group_gives i fs t p G g k at (Some (inner n)) h = g k at n (inr h)

pub through_gives : (i : ℕ) (m : List ℕ) (r : Repetition) (s : Shape) (fs : Fields) (q : Repetition) (p : List Step) → ((G : List Pick) → Only i p G → is_shape_path s p ≡ true → Gives i p s G)
    → ((j : ℕ) (G : List Pick) → Only i (step j q ∷ p) G → is_leaf_path fs (step j q ∷ p) ≡ true → FieldsGive i fs j q p G)
    → (j : ℕ) (G : List Pick) → Only i (step j q ∷ p) G → through j (same_repetition q r && is_shape_path s p) (λ (j : ℕ). is_leaf_path fs (step j q ∷ p)) ≡ true → FieldsGive i (field m r s fs) j q p G
through_gives i m r s fs q p f g zero G o h =
    let a : (same_repetition q r ≡ true) × (is_shape_path s p ≡ true) = and_parts _ _ h in
    let e : q ≡ r = same_repetition-true q r a.0 in
    subst (λ (x : Repetition). FieldsGive i (field m r s fs) 0 x p G) (sym e) (first_gives i m r s fs p G (subst (λ (x : Repetition). Only i (step 0 x ∷ p) G) e o) (f (first_picks G) (only_behind i q p G o) a.1))
through_gives i m r s fs q p f g (suc j) G o h = later_field_gives i m r s fs j q p G o (g j (later_picks G) (only_beside i j q p G o) h)

mutual
  pub fields_give : (i : ℕ) (fs : Fields) (q : Repetition) (p : List Step) (j : ℕ) (G : List Pick) → Only i (step j q ∷ p) G → is_leaf_path fs (step j q ∷ p) ≡ true → FieldsGive i fs j q p G
  fields_give i no_fields q p j G o h = absurd (true≢false (sym h))
  fields_give i (field m r s fs) q p j G o h = through_gives i m r s fs q p (λ G o h. shape_gives i s p G o h) (λ j G o h. fields_give i fs q p j G o h) j G o h

  pub shape_gives : (i : ℕ) (s : Shape) (p : List Step) (G : List Pick) → Only i p G → is_shape_path s p ≡ true → Gives i p s G
  shape_gives i (leaf k) [] G o h = leaf_gives i k G o
  shape_gives i (leaf k) (t ∷ p) G o h = absurd (true≢false (sym h))
  shape_gives i (group no_fields) [] G o h = absurd (true≢false (sym h))
  shape_gives i (group (field m r s fs)) [] G o h = absurd (true≢false (sym h))
  shape_gives i (group fs) (t ∷ p) G o h = group_gives i fs t p G (fields_give i fs t.repetition p t.place G o h)

pub record_gives : (i : ℕ) (fs : Fields) (F : List (List Step)) (p : List Step) (n : Node) → slice_get F i ≡ Some p → is_leaf_path fs p ≡ true → is_record fs n ≡ true → triplets_of i (record_moves fs F n) ≡ record_column p n
record_gives i fs F p n e h v =
    let o : Only i p (picks F) = subst (λ (x : ℕ). Only x p (picks F)) (no_shift i) (picks_only i 0 p F e) in
    of_enclosed i 0 (near_moves fs (picks F) top n ++ far_moves fs (picks F) 1 top n) ∙ of_append i (near_moves fs (picks F) top n) (far_moves fs (picks F) 1 top n) ∙ shape_gives i (group fs) p (picks F) o h 1 top (Some (inner n)) v
  where
    no_shift : (n : ℕ) → 0 + n ≡ n
    no_shift n = omega arith

pub walk_gives_columns : WalkGivesColumns
unfolding walk
walk_gives_columns fs F i p [] e h v = refl
walk_gives_columns fs F i p (n ∷ R) e h v =
    let a : (is_record fs n ≡ true) × (list_all (is_record fs) R ≡ true) = and_parts _ _ v in
    of_append i (record_moves fs F n) (flat_map (record_moves fs F) R) ∙ ap₂ (λ x y. x ++ y) (record_gives i fs F p n e h a.0) (walk_gives_columns fs F i p R e h a.1)
