-- The picks at the end of a path, among those of a selection.
use Rattle.std.proofs.Common.{◌≡◌, ◌⊎◌, inl, inr, ℕ, zero, suc, ◌+◌, List, [], ◌∷◌, ◌++◌, map, true, ◌&&◌, Some, refl, sym, ap, ap₂, ◌∙◌, subst}
use Rattle.std.proofs.Common.{true≢false, arith}
use Rattle.std.specs.List.{slice_get, list_all}
use Rattle.std.proofs.lemmas.Bool.{and_parts, eqb-true}
use Rattle.std.proofs.lemmas.List.{map-append}
use Rattle.dr_meaning.specs.Schema.{Repetition, required, optional, repeated, Fields, no_fields, field, Shape, leaf, group}
use Rattle.dr_meaning.specs.Path.{Step, same_repetition, is_leaf_path, is_shape_path}
use Rattle.dr_meaning.specs.Automaton.{Pick, picks, picks_from, first_picks_if, first_picks_and, first_picks, later_picks_if, later_picks_and}
use Rattle.dr_meaning.specs.Automaton.{later_picks, indexes, unless_repeated, where_repeated}
use Rattle.dr_meaning.specs.Automaton.{near_order, far_order, shape_near_order, shape_far_order, reading_order}
use Rattle.dr_meaning.proofs.ProjectionLemmas.{step}
use Rattle.dr_meaning.proofs.Blocks.{same_repetition-true}
use Rattle.dr_meaning.proofs.WalkLemmas.{Only, only_behind, only_beside, picks_only}
use Rattle.dr_moves.specs.Selection.{all_differ}
use Rattle.dr_moves.proofs.Apart.{AtMostOne, Apart, ShapeApart}
use Rattle.dr_moves.proofs.ApartLemmas.{leaves_apart}

-- those that go through the field at a place
abbrev pub below : ℕ → List Pick → List Pick
below zero G = first_picks G
below (suc k) G = below k (later_picks G)

-- those that go along a path, with what is left of theirs behind it
abbrev pub picks_at : List Step → List Pick → List Pick
picks_at [] G = G
picks_at (s ∷ p) G = picks_at p (below s.place G)

-- ---- the order is told by what is picked at each leaf

unless_mapped : (f : ℕ → ℕ) (r : Repetition) (xs : List ℕ) → map f (unless_repeated r xs) ≡ unless_repeated r (map f xs)
unless_mapped f required xs = refl
unless_mapped f optional xs = refl
unless_mapped f repeated xs = refl

where_mapped : (f : ℕ → ℕ) (r : Repetition) (xs : List ℕ) → map f (where_repeated r xs) ≡ where_repeated r (map f xs)
where_mapped f required xs = refl
where_mapped f optional xs = refl
where_mapped f repeated xs = refl

same_again : (r : Repetition) → same_repetition r r ≡ true
same_again required = refl
same_again optional = refl
same_again repeated = refl

module _ (f : ℕ → ℕ) where
  -- at each leaf the second selection has the places of the first, by the function
  abbrev pub ShapeAlike : Shape → List Pick → List Pick → Type 0
  ShapeAlike h G H = (p : List Step) → is_shape_path h p ≡ true → map f (indexes (picks_at p G)) ≡ indexes (picks_at p H)

  abbrev pub Alike : Fields → List Pick → List Pick → Type 0
  Alike fs G H =
      (k : ℕ) (r : Repetition) (p : List Step) → is_leaf_path fs (step k r ∷ p) ≡ true
      → map f (indexes (picks_at p (below k G))) ≡ indexes (picks_at p (below k H))

  abbrev first_alike : (m : List ℕ) (r : Repetition) (h : Shape) (fs : Fields) (G H : List Pick) → Alike (field m r h fs) G H
      → ShapeAlike h (first_picks G) (first_picks H)
  first_alike m r h fs G H a = λ p u. a 0 r p (ap₂ (λ x y. x && y) (same_again r) u)

  abbrev later_alike : (m : List ℕ) (r : Repetition) (h : Shape) (fs : Fields) (G H : List Pick) → Alike (field m r h fs) G H
      → Alike fs (later_picks G) (later_picks H)
  later_alike m r h fs G H a = λ k q p u. a (suc k) q p u

  group_alike : (fs : Fields) (G H : List Pick) → ShapeAlike (group fs) G H → Alike fs G H
  group_alike fs G H a = λ k r p u. a (step k r ∷ p) u

  mutual
    near_alike : (fs : Fields) (G H : List Pick) → Alike fs G H → map f (near_order fs G) ≡ near_order fs H
    near_alike no_fields G H a = refl
    near_alike (field m r h fs) G H a =
        map-append f (unless_repeated r (shape_near_order h (first_picks G))) (near_order fs (later_picks G))
        ∙ ap₂ (λ x y. x ++ y)
        (unless_mapped f r (shape_near_order h (first_picks G))
        ∙ ap (unless_repeated r) (shape_near_alike h (first_picks G) (first_picks H) (first_alike m r h fs G H a)))
        (near_alike fs (later_picks G) (later_picks H) (later_alike m r h fs G H a))

    shape_near_alike : (h : Shape) (G H : List Pick) → ShapeAlike h G H → map f (shape_near_order h G) ≡ shape_near_order h H
    shape_near_alike (leaf k) G H a = a [] refl
    shape_near_alike (group fs) G H a = near_alike fs G H (group_alike fs G H a)

  mutual
    far_alike : (fs : Fields) (G H : List Pick) → Alike fs G H → map f (far_order fs G) ≡ far_order fs H
    far_alike no_fields G H a = refl
    far_alike (field m r h fs) G H a =
        let N = shape_near_order h (first_picks G) in
        let b : ShapeAlike h (first_picks G) (first_picks H) = first_alike m r h fs G H a in
        map-append f (where_repeated r N ++ shape_far_order h (first_picks G)) (far_order fs (later_picks G))
        ∙ ap₂ (λ x y. x ++ y) (map-append f (where_repeated r N) (shape_far_order h (first_picks G))
        ∙ ap₂ (λ x y. x ++ y) (where_mapped f r N ∙ ap (where_repeated r) (shape_near_alike h (first_picks G) (first_picks H) b))
        (shape_far_alike h (first_picks G) (first_picks H) b))
        (far_alike fs (later_picks G) (later_picks H) (later_alike m r h fs G H a))

    shape_far_alike : (h : Shape) (G H : List Pick) → ShapeAlike h G H → map f (shape_far_order h G) ≡ shape_far_order h H
    shape_far_alike (leaf k) G H a = refl
    shape_far_alike (group fs) G H a = far_alike fs G H (group_alike fs G H a)

  pub order_alike : (fs : Fields) (F E : List (List Step)) → Alike fs (picks F) (picks E) → map f (reading_order fs F) ≡ reading_order fs E
  order_alike fs F E a =
      map-append f (near_order fs (picks F)) (far_order fs (picks F))
      ∙ ap₂ (λ x y. x ++ y) (near_alike fs (picks F) (picks E) a) (far_alike fs (picks F) (picks E) a)

-- ---- what is picked at a leaf that is selected

only_below : (i k : ℕ) (r : Repetition) (p : List Step) (G : List Pick) → Only i (step k r ∷ p) G → Only i p (below k G)
only_below i zero r p G o = only_behind i r p G o
only_below i (suc k) r p G o = only_below i k r p (later_picks G) (only_beside i k r p G o)

only_at : (i : ℕ) (p : List Step) (G : List Pick) → Only i p G → Only i [] (picks_at p G)
only_at i [] G o = o
only_at i (s ∷ p) G o = only_at i p (below s.place G) (only_below i s.place s.repetition p G o)

mutual
  apart_below : (fs : Fields) (k : ℕ) (r : Repetition) (p : List Step) (G : List Pick) → Apart fs G → is_leaf_path fs (step k r ∷ p) ≡ true
      → AtMostOne (picks_at p (below k G))
  apart_below no_fields k r p G a u = absurd (true≢false (sym u))
  apart_below (field m c h fs) zero r p G a u = apart_at h p (first_picks G) a.0 (and_parts (same_repetition r c) (is_shape_path h p) u).1
  apart_below (field m c h fs) (suc k) r p G a u = apart_below fs k r p (later_picks G) a.1 u

  apart_at : (h : Shape) (p : List Step) (G : List Pick) → ShapeApart h G → is_shape_path h p ≡ true → AtMostOne (picks_at p G)
  apart_at (leaf j) [] G a u = a
  apart_at (leaf j) (s ∷ p) G a u = absurd (true≢false (sym u))
  apart_at (group no_fields) [] G a u = absurd (true≢false (sym u))
  apart_at (group (field m c h fs)) [] G a u = absurd (true≢false (sym u))
  apart_at (group fs) (s ∷ p) G a u = apart_below fs s.place s.repetition p G a u

one_index : (i : ℕ) (G : List Pick) → AtMostOne G → Only i [] G → indexes G ≡ i ∷ []
one_index i [] a o = absurd o
one_index i (g ∷ []) a (inl o) = ap (λ (j : ℕ). j ∷ []) (eqb-true g.index i o.0)
one_index i (g ∷ []) a (inr o) = absurd o.1
one_index i (g ∷ h ∷ G) a o = absurd a

pub picked : (fs : Fields) (F : List (List Step)) → list_all (is_leaf_path fs) F ≡ true → all_differ F ≡ true → (i : ℕ) (p : List Step)
    → slice_get F i ≡ Some p → is_leaf_path fs p ≡ true
    → indexes (picks_at p (picks F)) ≡ i ∷ []
picked fs F h d i p e u =
    one_index i (picks_at p (picks F)) (apart_at (group fs) p (picks F) (leaves_apart fs F h d) u)
    (only_at i p (picks F) (subst (λ (x : ℕ). Only x p (picks F)) (no_shift i) (picks_only i 0 p F e)))
  where
    no_shift : (n : ℕ) → 0 + n ≡ n
    no_shift n = omega arith

-- ---- or at one that isn't

first_append : (G H : List Pick) → first_picks (G ++ H) ≡ first_picks G ++ first_picks H
first_append [] H = refl
first_append (g ∷ G) H = by_rest g.rest (first_append G H)
  where
    by_rest : (q : List Step) → first_picks (G ++ H) ≡ first_picks G ++ first_picks H
        → first_picks_and q g.index (first_picks (G ++ H)) ≡ first_picks_and q g.index (first_picks G) ++ first_picks H
    by_rest [] e = e
    by_rest (s ∷ q) e = by_place s.place
      where
        by_place : (k : ℕ) → first_picks_if k q g.index (first_picks (G ++ H)) ≡ first_picks_if k q g.index (first_picks G) ++ first_picks H
        by_place zero = ap (λ (X : List Pick). record { rest = q; index = g.index } ∷ X) e
        by_place (suc k) = e

later_append : (G H : List Pick) → later_picks (G ++ H) ≡ later_picks G ++ later_picks H
later_append [] H = refl
later_append (g ∷ G) H = by_rest g.rest (later_append G H)
  where
    by_rest : (q : List Step) → later_picks (G ++ H) ≡ later_picks G ++ later_picks H
        → later_picks_and q g.index (later_picks (G ++ H)) ≡ later_picks_and q g.index (later_picks G) ++ later_picks H
    by_rest [] e = e
    by_rest (s ∷ q) e = by_place s.place
      where
        by_place : (k : ℕ) → later_picks_if k s q g.index (later_picks (G ++ H)) ≡ later_picks_if k s q g.index (later_picks G) ++ later_picks H
        by_place zero = e
        by_place (suc k) = ap (λ (X : List Pick). record { rest = step k s.repetition ∷ q; index = g.index } ∷ X) e

below_append : (k : ℕ) (G H : List Pick) → below k (G ++ H) ≡ below k G ++ below k H
below_append zero G H = first_append G H
below_append (suc k) G H = ap (below k) (later_append G H) ∙ below_append k (later_picks G) (later_picks H)

at_append : (p : List Step) (G H : List Pick) → picks_at p (G ++ H) ≡ picks_at p G ++ picks_at p H
at_append [] G H = refl
at_append (s ∷ p) G H = ap (picks_at p) (below_append s.place G H) ∙ at_append p (below s.place G) (below s.place H)

none_below : (k : ℕ) → below k [] ≡ []
none_below zero = refl
none_below (suc k) = none_below k

none_at : (p : List Step) → picks_at p [] ≡ []
none_at [] = refl
none_at (s ∷ p) = ap (picks_at p) (none_below s.place) ∙ none_at p

abbrev one_pick : List Step → ℕ → List Pick
one_pick q i = record { rest = q; index = i } ∷ []

mutual
  one_below : (fs : Fields) (i a b : ℕ) (c e : Repetition) (q p : List Step) → is_leaf_path fs (step a c ∷ q) ≡ true
      → is_leaf_path fs (step b e ∷ p) ≡ true
      → (picks_at p (below b (one_pick (step a c ∷ q) i)) ≡ []) ⊎ ((a ≡ b) × (c ≡ e) × (q ≡ p))
  one_below no_fields i a b c e q p u v = absurd (true≢false (sym u))
  one_below (field m r h fs) i zero zero c e q p u v =
      let x : (same_repetition c r ≡ true) × (is_shape_path h q ≡ true) = and_parts _ _ u in
      let y : (same_repetition e r ≡ true) × (is_shape_path h p ≡ true) = and_parts _ _ v in
      by_rest (same_repetition-true c r x.0 ∙ sym (same_repetition-true e r y.0)) (one_at h i q p x.1 y.1)
    where
      by_rest : c ≡ e → (picks_at p (one_pick q i) ≡ []) ⊎ (q ≡ p) → (picks_at p (one_pick q i) ≡ []) ⊎ ((◌≡◌ {A = ℕ} 0 0) × (c ≡ e) × (q ≡ p))
      by_rest z (inl n) = inl n
      by_rest z (inr n) = inr (refl, z, n)
  one_below (field m r h fs) i zero (suc b) c e q p u v = inl (ap (picks_at p) (none_below b) ∙ none_at p)
  one_below (field m r h fs) i (suc a) zero c e q p u v = inl (none_at p)
  one_below (field m r h fs) i (suc a) (suc b) c e q p u v = by_rest (one_below fs i a b c e q p u v)
    where
      by_rest : (picks_at p (below b (one_pick (step a c ∷ q) i)) ≡ []) ⊎ ((a ≡ b) × (c ≡ e) × (q ≡ p))
          → (picks_at p (below b (one_pick (step a c ∷ q) i)) ≡ []) ⊎ ((suc a ≡ suc b) × (c ≡ e) × (q ≡ p))
      by_rest (inl n) = inl n
      by_rest (inr n) = inr (ap suc n.0, n.1, n.2)

  one_at : (h : Shape) (i : ℕ) (q p : List Step) → is_shape_path h q ≡ true → is_shape_path h p ≡ true → (picks_at p (one_pick q i) ≡ []) ⊎ (q ≡ p)
  one_at (leaf j) i [] [] u v = inr refl
  one_at (leaf j) i [] (t ∷ p) u v = absurd (true≢false (sym v))
  one_at (leaf j) i (s ∷ q) p u v = absurd (true≢false (sym u))
  one_at (group no_fields) i [] p u v = absurd (true≢false (sym u))
  one_at (group (field m r h fs)) i [] p u v = absurd (true≢false (sym u))
  one_at (group no_fields) i (s ∷ q) [] u v = absurd (true≢false (sym v))
  one_at (group (field m r h fs)) i (s ∷ q) [] u v = absurd (true≢false (sym v))
  one_at (group fs) i (s ∷ q) (t ∷ p) u v = by_rest (one_below fs i s.place t.place s.repetition t.repetition q p u v)
    where
      by_rest : (picks_at p (below t.place (one_pick (s ∷ q) i)) ≡ []) ⊎ ((s.place ≡ t.place) × (s.repetition ≡ t.repetition) × (q ≡ p))
          → (picks_at p (below t.place (one_pick (s ∷ q) i)) ≡ []) ⊎ (s ∷ q ≡ t ∷ p)
      by_rest (inl n) = inl n
      by_rest (inr n) = let x : s ≡ t = ap₂ (λ (a : ℕ) (r : Repetition). step a r) n.0 n.1 in inr (ap₂ (λ (a : Step) (l : List Step). a ∷ l) x n.2)

-- nothing is picked at a leaf, or it is selected
pub picked_or_not : (fs : Fields) (k : ℕ) (F : List (List Step)) → list_all (is_leaf_path fs) F ≡ true → (p : List Step) → is_leaf_path fs p ≡ true
    → (picks_at p (picks_from k F) ≡ []) ⊎ ((i : ℕ) × (slice_get F i ≡ Some p))
picked_or_not fs k [] h p u = inl (none_at p)
picked_or_not fs k (q ∷ F) h p u =
    let a : (is_leaf_path fs q ≡ true) × (list_all (is_leaf_path fs) F ≡ true) = and_parts (is_leaf_path fs q) (list_all (is_leaf_path fs) F) h in
    by_first (one_at (group fs) k q p a.0 u) (picked_or_not fs (suc k) F a.1 p u)
  where
    by_first : (picks_at p (one_pick q k) ≡ []) ⊎ (q ≡ p) → (picks_at p (picks_from (suc k) F) ≡ []) ⊎ ((i : ℕ) × (slice_get F i ≡ Some p))
        → (picks_at p (picks_from k (q ∷ F)) ≡ []) ⊎ ((i : ℕ) × (slice_get (q ∷ F) i ≡ Some p))
    by_first (inr e) r = inr (0, ap Some e)
    by_first (inl e) (inr r) = inr (suc r.0, r.1)
    by_first (inl e) (inl r) = inl (at_append p (one_pick q k) (picks_from (suc k) F) ∙ ap₂ (λ (x y : List Pick). x ++ y) e r)
