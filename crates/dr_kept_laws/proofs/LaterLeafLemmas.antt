-- Leaves of one chain are read together with the last of them in reading order.
use Rattle.std.proofs.Common.{◌≡◌, ◌⊎◌, inl, inr, ℕ, zero, suc, ◌+◌, ◌<◌, ◌≤◌, List, [], ◌∷◌, ◌++◌, Bool, true, false, refl, sym, ap, ap₂, subst, ◌∙◌, append_assoc, append-nil, true≢false, arith}
use Rattle.std.specs.Prelude.{◌==◌, ◌||◌, if◌then◌else◌}
use Rattle.std.proofs.lemmas.Bool.{and_parts, eq-eqb, ne_eqb, eqb-true}
use Rattle.dr_meaning.specs.Schema.{Repetition, required, optional, repeated, Fields, no_fields, field, Shape, leaf, group, repetition_count}
use Rattle.dr_meaning.specs.Path.{Step, is_leaf_path, is_shape_path, same_repetition, max_repetition, chain_end, up_to, begins_with}
use Rattle.dr_meaning.specs.Automaton.{Pick, picks, first_picks, later_picks, indexes, unless_repeated, where_repeated, near_order, far_order, shape_near_order, shape_far_order}
use Rattle.dr_meaning.proofs.ProjectionLemmas.{step}
use Rattle.dr_meaning.proofs.Blocks.{same_repetition-true}
use Rattle.dr_meaning.proofs.WalkLemmas.{Without, Only, without_behind, without_beside, only_behind, beside_first, only_beside, behind_later}
use Rattle.dr_kept_laws.specs.LaterLeaf.{comes_first, LaterReadsBoth}
use Rattle.dr_moves.proofs.Apart.{AtMostOne, Apart, ShapeApart}
use Rattle.dr_kept_laws.proofs.Selections.{leaf_selected, selected_only}
use Rattle.dr_moves.proofs.ApartLemmas.{leaves_apart}
use Rattle.dr_kept_laws.proofs.LevelLemmas.{on_root, on_apart}
use Rattle.dr_kept_laws.proofs.RowValues.{no_level, level_none, along_level}
use Rattle.dr_moves.specs.Together.{Together, same_leaf, along, apart}

-- ---- lists of leaves

-- neither of two leaves is among them
abbrev HasNone : ℕ → List ℕ → Type 0
HasNone i [] = Unit {0}
HasNone i (j ∷ js) = ((j == i) ≡ false) × HasNone i js

none_append : (i : ℕ) (xs ys : List ℕ) → HasNone i xs → HasNone i ys → HasNone i (xs ++ ys)
none_append i [] ys h g = g
none_append i (x ∷ xs) ys h g = (h.0, none_append i xs ys h.1 g)

-- leaves without either in the middle are passed over
passed : (k i : ℕ) (xs ys zs : List ℕ) → HasNone k ys → HasNone i ys → comes_first k i (xs ++ (ys ++ zs)) ≡ comes_first k i (xs ++ zs)
passed k i [] [] zs h g = refl
passed k i [] (y ∷ ys) zs h g = ap₂ (λ (a b : Bool). if a then true else if b then false else comes_first k i (ys ++ zs)) h.0 g.0 ∙ passed k i [] ys zs h.1 g.1
passed k i (x ∷ xs) ys zs h g = ap (λ (b : Bool). if x == k then true else if x == i then false else b) (passed k i xs ys zs h g)

-- the second is among them, and the first isn't
second_first : (k i : ℕ) (xs zs : List ℕ) → HasNone k xs → (HasNone i xs → ⊥) → comes_first k i (xs ++ zs) ≡ false
second_first k i [] zs h g = absurd (g tt)
second_first k i (x ∷ xs) zs h g = by_test (x == i) refl (λ n. second_first k i xs zs h.1 n)
  where
    by_test : (b : Bool) → (x == i) ≡ b → ((HasNone i xs → ⊥) → comes_first k i (xs ++ zs) ≡ false) → comes_first k i ((x ∷ xs) ++ zs) ≡ false
    by_test true e f = ap₂ (λ (a b : Bool). if a then true else if b then false else comes_first k i (xs ++ zs)) h.0 e
    by_test false e f = ap₂ (λ (a b : Bool). if a then true else if b then false else comes_first k i (xs ++ zs)) h.0 e ∙ f (λ n. g (e, n))

-- ---- where a leaf isn't, and where it is

none_of_picks : (i : ℕ) (G : List Pick) → Without i G → HasNone i (indexes G)
none_of_picks i [] h = tt
none_of_picks i (g ∷ G) h = (h.0, none_of_picks i G h.1)

unless_none : (i : ℕ) (r : Repetition) (xs : List ℕ) → HasNone i xs → HasNone i (unless_repeated r xs)
unless_none i required xs h = h
unless_none i optional xs h = h
unless_none i repeated xs h = tt

where_none : (i : ℕ) (r : Repetition) (xs : List ℕ) → HasNone i xs → HasNone i (where_repeated r xs)
where_none i required xs h = tt
where_none i optional xs h = tt
where_none i repeated xs h = h

mutual
  near_none : (i : ℕ) (fs : Fields) (G : List Pick) → Without i G → HasNone i (near_order fs G)
  near_none i no_fields G h = tt
  near_none i (field m r s fs) G h = none_append i (unless_repeated r (shape_near_order s (first_picks G))) (near_order fs (later_picks G)) (unless_none i r (shape_near_order s (first_picks G)) (shape_near_none i s (first_picks G) (without_behind i G h))) (near_none i fs (later_picks G) (without_beside i G h))

  shape_near_none : (i : ℕ) (s : Shape) (G : List Pick) → Without i G → HasNone i (shape_near_order s G)
  shape_near_none i (leaf k) G h = none_of_picks i G h
  shape_near_none i (group fs) G h = near_none i fs G h

mutual
  far_none : (i : ℕ) (fs : Fields) (G : List Pick) → Without i G → HasNone i (far_order fs G)
  far_none i no_fields G h = tt
  far_none i (field m r s fs) G h =
      none_append i (where_repeated r (shape_near_order s (first_picks G)) ++ shape_far_order s (first_picks G)) (far_order fs (later_picks G))
      (none_append i (where_repeated r (shape_near_order s (first_picks G))) (shape_far_order s (first_picks G)) (where_none i r (shape_near_order s (first_picks G)) (shape_near_none i s (first_picks G) (without_behind i G h))) (shape_far_none i s (first_picks G) (without_behind i G h)))
      (far_none i fs (later_picks G) (without_beside i G h))

  shape_far_none : (i : ℕ) (s : Shape) (G : List Pick) → Without i G → HasNone i (shape_far_order s G)
  shape_far_none i (leaf k) G h = tt
  shape_far_none i (group fs) G h = far_none i fs G h

one_of_picks : (i : ℕ) (p : List Step) (G : List Pick) → Only i p G → HasNone i (indexes G) → ⊥
one_of_picks i p [] o h = o
one_of_picks i p (g ∷ G) (inl o) h = true≢false (sym o.0 ∙ h.0)
one_of_picks i p (g ∷ G) (inr o) h = one_of_picks i p G o.1 h.1

none_first : (i : ℕ) (xs ys : List ℕ) → HasNone i (xs ++ ys) → HasNone i xs
none_first i [] ys h = tt
none_first i (x ∷ xs) ys h = (h.0, none_first i xs ys h.1)

none_second : (i : ℕ) (xs ys : List ℕ) → HasNone i (xs ++ ys) → HasNone i ys
none_second i [] ys h = h
none_second i (x ∷ xs) ys h = none_second i xs ys h.1

-- a leaf of the level is among those
some_through : (i : ℕ) (m : List ℕ) (r : Repetition) (s : Shape) (fs : Fields) (q : Repetition) (p : List Step) → max_repetition (step 0 q ∷ p) ≡ 0
    → ((G : List Pick) → Only i p G → is_shape_path s p ≡ true → HasNone i (shape_near_order s G) → ⊥)
    → ((j : ℕ) (G : List Pick) → Only i (step j q ∷ p) G → is_leaf_path fs (step j q ∷ p) ≡ true → HasNone i (near_order fs G) → ⊥)
    → (j : ℕ) (G : List Pick) → Only i (step j q ∷ p) G → is_leaf_path (field m r s fs) (step j q ∷ p) ≡ true → HasNone i (near_order (field m r s fs) G) → ⊥
some_through i m r s fs q p z f g zero G o u h =
    let a : (same_repetition q r ≡ true) × (is_shape_path s p ≡ true) = and_parts _ _ u in
    by_repetition r (subst (λ (x : Repetition). repetition_count x + max_repetition p ≡ 0) (same_repetition-true q r a.0) z) (none_first i (unless_repeated r (shape_near_order s (first_picks G))) (near_order fs (later_picks G)) h)
    (f (first_picks G) (only_behind i q p G o) a.1)
  where
    by_repetition : (r : Repetition) → repetition_count r + max_repetition p ≡ 0 → HasNone i (unless_repeated r (shape_near_order s (first_picks G))) → (HasNone i (shape_near_order s (first_picks G)) → ⊥) → ⊥
    by_repetition required z h f = f h
    by_repetition optional z h f = f h
    by_repetition repeated z h f = omega (arith, z)
some_through i m r s fs q p z f g (suc j) G o u h = g j (later_picks G) (only_beside i j q p G o) u (none_second i (unless_repeated r (shape_near_order s (first_picks G))) (near_order fs (later_picks G)) h)

mutual
  near_some : (i : ℕ) (fs : Fields) (q : Repetition) (p : List Step) → max_repetition (step 0 q ∷ p) ≡ 0 → (j : ℕ) (G : List Pick) → Only i (step j q ∷ p) G → is_leaf_path fs (step j q ∷ p) ≡ true → HasNone i (near_order fs G) → ⊥
  near_some i no_fields q p z j G o u h = true≢false (sym u)
  near_some i (field m r s fs) q p z j G o u h = some_through i m r s fs q p z (λ G o u h. shape_near_some i s p (omega (arith, z)) G o u h) (λ j G o u h. near_some i fs q p z j G o u h) j G o u h

  shape_near_some : (i : ℕ) (s : Shape) (p : List Step) → max_repetition p ≡ 0 → (G : List Pick) → Only i p G → is_shape_path s p ≡ true → HasNone i (shape_near_order s G) → ⊥
  shape_near_some i (leaf k) p z G o u h = one_of_picks i p G o h
  shape_near_some i (group no_fields) [] z G o u h = true≢false (sym u)
  shape_near_some i (group (field m r s fs)) [] z G o u h = true≢false (sym u)
  shape_near_some i (group fs) (t ∷ p) z G o u h = near_some i fs t.repetition p z t.place G o u h

-- ---- two leaves of a level: the later field's isn't met first

field_order : (k i : ℕ) (fs : Fields) (c e : Repetition) (q p : List Step) → max_repetition (step 0 e ∷ p) ≡ 0 → (a b : ℕ) (G : List Pick) → Only k (step a c ∷ q) G → Only i (step b e ∷ p) G
    → is_leaf_path fs (step b e ∷ p) ≡ true → b < a → (zs : List ℕ) → comes_first k i (near_order fs G ++ zs) ≡ false
field_order k i no_fields c e q p z a b G ok oi u l zs = absurd (true≢false (sym u))
field_order k i (field m r s fs) c e q p z zero b G ok oi u l zs = absurd (omega (arith, l))
field_order k i (field m r s fs) c e q p z (suc a) zero G ok oi u l zs =
    let x : (same_repetition e r ≡ true) × (is_shape_path s p ≡ true) = and_parts _ _ u in
    ap (comes_first k i) (append_assoc (unless_repeated r (shape_near_order s (first_picks G))) (near_order fs (later_picks G)) zs)
    ∙ second_first k i (unless_repeated r (shape_near_order s (first_picks G))) (near_order fs (later_picks G) ++ zs)
    (unless_none k r (shape_near_order s (first_picks G)) (shape_near_none k s (first_picks G) (behind_later k a c q G ok)))
    (by_repetition r (subst (λ (y : Repetition). repetition_count y + max_repetition p ≡ 0) (same_repetition-true e r x.0) z) (shape_near_some i s p (omega (arith, z)) (first_picks G) (only_behind i e p G oi) x.1))
  where
    by_repetition : (r : Repetition) → repetition_count r + max_repetition p ≡ 0 → (HasNone i (shape_near_order s (first_picks G)) → ⊥) → HasNone i (unless_repeated r (shape_near_order s (first_picks G))) → ⊥
    by_repetition required z f h = f h
    by_repetition optional z f h = f h
    by_repetition repeated z f h = omega (arith, z)
field_order k i (field m r s fs) c e q p z (suc a) (suc b) G ok oi u l zs =
    ap (comes_first k i) (append_assoc (unless_repeated r (shape_near_order s (first_picks G))) (near_order fs (later_picks G)) zs)
    ∙ passed k i [] (unless_repeated r (shape_near_order s (first_picks G))) (near_order fs (later_picks G) ++ zs)
    (unless_none k r (shape_near_order s (first_picks G)) (shape_near_none k s (first_picks G) (behind_later k a c q G ok)))
    (unless_none i r (shape_near_order s (first_picks G)) (shape_near_none i s (first_picks G) (behind_later i b e p G oi)))
    ∙ field_order k i fs c e q p z a b (later_picks G) (only_beside k a c q G ok) (only_beside i b e p G oi) u (omega (arith, l)) zs

-- ---- levels

-- a level begins with the path's first step, or is the record's
level_head : (t : Step) (p : List Step) → (chain_end (t ∷ p) ≡ []) ⊎ ((M : List Step) × (chain_end (t ∷ p) ≡ t ∷ M))
level_head t p = by_level (chain_end p) t.repetition
  where
    by_level : (L : List Step) (r : Repetition) → (up_to (record { place = t.place; repetition = r }) L ≡ []) ⊎ ((M : List Step) × (up_to (record { place = t.place; repetition = r }) L ≡ record { place = t.place; repetition = r } ∷ M))
    by_level (u ∷ L) r = inr (u ∷ L, refl)
    by_level [] required = inl refl
    by_level [] optional = inl refl
    by_level [] repeated = inr ([], refl)

apart_level : (s t : Step) (q p : List Step) → (s.place == t.place) ≡ false → begins_with (chain_end (s ∷ q)) (chain_end (t ∷ p)) ≡ true → max_repetition (s ∷ q) ≡ 0
apart_level s t q p d h = level_none (s ∷ q) (by_head (level_head t p))
  where
    by_head : (chain_end (t ∷ p) ≡ []) ⊎ ((M : List Step) × (chain_end (t ∷ p) ≡ t ∷ M)) → chain_end (s ∷ q) ≡ []
    by_head (inl e) = on_root (chain_end (s ∷ q)) (ap (begins_with (chain_end (s ∷ q))) (sym e) ∙ h)
    by_head (inr e) = on_apart s t q e.0 d (ap (begins_with (chain_end (s ∷ q))) (sym e.1) ∙ h)

level_rest : (s t : Step) (q p : List Step) → begins_with (chain_end (s ∷ q)) (chain_end (t ∷ p)) ≡ true → begins_with (chain_end q) (chain_end p) ≡ true
level_rest s t q p h = by_level (chain_end q) (chain_end p) t.repetition h
  where
    by_level : (L M : List Step) (r : Repetition) → begins_with (up_to s L) (up_to (record { place = t.place; repetition = r }) M) ≡ true → begins_with L M ≡ true
    by_level [] M r h = refl
    by_level (u ∷ L) (v ∷ M) r h = (and_parts (s.place == t.place) (begins_with (u ∷ L) (v ∷ M)) h).1
    by_level (u ∷ L) [] required h = absurd (true≢false (sym h))
    by_level (u ∷ L) [] optional h = absurd (true≢false (sym h))
    by_level (u ∷ L) [] repeated h = absurd (true≢false (sym (and_parts (s.place == t.place) false h).1))

-- ---- a level's leaves and those below, in one field

passed_last : (k i : ℕ) (xs ys : List ℕ) → HasNone k ys → HasNone i ys → comes_first k i (xs ++ ys) ≡ comes_first k i xs
passed_last k i xs ys h g = ap (λ (zs : List ℕ). comes_first k i (xs ++ zs)) (sym (append-nil ys)) ∙ passed k i xs ys [] h g ∙ ap (comes_first k i) (append-nil xs)

field_first : (k i : ℕ) (r : Repetition) (N S NR FR : List ℕ) → HasNone k NR → HasNone i NR → HasNone k FR → HasNone i FR
    → comes_first k i ((unless_repeated r N ++ NR) ++ ((where_repeated r N ++ S) ++ FR)) ≡ comes_first k i (N ++ S)
field_first k i required N S NR FR a b c d = ap (comes_first k i) (append_assoc N NR (S ++ FR)) ∙ passed k i N NR (S ++ FR) a b ∙ ap (comes_first k i) (sym (append_assoc N S FR)) ∙ passed_last k i (N ++ S) FR c d
field_first k i optional N S NR FR a b c d = ap (comes_first k i) (append_assoc N NR (S ++ FR)) ∙ passed k i N NR (S ++ FR) a b ∙ ap (comes_first k i) (sym (append_assoc N S FR)) ∙ passed_last k i (N ++ S) FR c d
field_first k i repeated N S NR FR a b c d = passed k i [] NR ((N ++ S) ++ FR) a b ∙ passed_last k i (N ++ S) FR c d

other_first : (k i : ℕ) (U V NR FR : List ℕ) → HasNone k U → HasNone i U → HasNone k V → HasNone i V → comes_first k i ((U ++ NR) ++ (V ++ FR)) ≡ comes_first k i (NR ++ FR)
other_first k i U V NR FR a b c d = ap (comes_first k i) (append_assoc U NR (V ++ FR)) ∙ passed k i [] U (NR ++ (V ++ FR)) a b ∙ passed k i NR V FR c d

-- ---- all of it

module _ (k i : ℕ) where
  abbrev ShapeTogether : Shape → List Step → List Step → Type 0
  ShapeTogether h q p = (G : List Pick) → ShapeApart h G → Only k q G → Only i p G → is_shape_path h q ≡ true → is_shape_path h p ≡ true → begins_with (chain_end q) (chain_end p) ≡ true
      → comes_first k i (shape_near_order h G ++ shape_far_order h G) ≡ true → Together (k ≡ i) (Unit {0}) q p

  abbrev FieldsTogether : Fields → Repetition → Repetition → List Step → List Step → Type 0
  FieldsTogether fs c e q p = (a : ℕ) (G : List Pick) → Apart fs G → Only k (step a c ∷ q) G → Only i (step a e ∷ p) G → is_leaf_path fs (step a c ∷ q) ≡ true → is_leaf_path fs (step a e ∷ p) ≡ true
      → begins_with (chain_end q) (chain_end p) ≡ true → comes_first k i (near_order fs G ++ far_order fs G) ≡ true → Together (k ≡ i) (Unit {0}) q p

  through_together : (m : List ℕ) (r : Repetition) (h : Shape) (fs : Fields) (c e : Repetition) (q p : List Step) → ShapeTogether h q p → FieldsTogether fs c e q p → FieldsTogether (field m r h fs) c e q p
  through_together m r h fs c e q p f g zero G d ok oi uk ui l w =
      f (first_picks G) d.0 (only_behind k c q G ok) (only_behind i e p G oi) (and_parts _ _ uk).1 (and_parts _ _ ui).1 l
      (sym (field_first k i r (shape_near_order h (first_picks G)) (shape_far_order h (first_picks G)) (near_order fs (later_picks G)) (far_order fs (later_picks G))
      (near_none k fs (later_picks G) (beside_first k c q G ok)) (near_none i fs (later_picks G) (beside_first i e p G oi)) (far_none k fs (later_picks G) (beside_first k c q G ok)) (far_none i fs (later_picks G) (beside_first i e p G oi))) ∙ w)
  through_together m r h fs c e q p f g (suc a) G d ok oi uk ui l w =
      let N = shape_near_order h (first_picks G) in
      let wk : Without k (first_picks G) = behind_later k a c q G ok in
      let wi : Without i (first_picks G) = behind_later i a e p G oi in
      g a (later_picks G) d.1 (only_beside k a c q G ok) (only_beside i a e p G oi) uk ui l
      (sym (other_first k i (unless_repeated r (shape_near_order h (first_picks G))) (where_repeated r (shape_near_order h (first_picks G)) ++ shape_far_order h (first_picks G)) (near_order fs (later_picks G)) (far_order fs (later_picks G))
      (unless_none k r N (shape_near_none k h (first_picks G) wk)) (unless_none i r N (shape_near_none i h (first_picks G) wi))
      (none_append k (where_repeated r N) (shape_far_order h (first_picks G)) (where_none k r N (shape_near_none k h (first_picks G) wk)) (shape_far_none k h (first_picks G) wk))
      (none_append i (where_repeated r N) (shape_far_order h (first_picks G)) (where_none i r N (shape_near_none i h (first_picks G) wi)) (shape_far_none i h (first_picks G) wi))) ∙ w)

  compared : (a b : ℕ) → (a < b) ⊎ (b ≤ a)
  compared zero zero = inr (omega arith)
  compared zero (suc b) = inl (omega arith)
  compared (suc a) zero = inr (omega arith)
  compared (suc a) (suc b) = by_case (compared a b)
    where
      by_case : (a < b) ⊎ (b ≤ a) → (suc a < suc b) ⊎ (suc b ≤ suc a)
      by_case (inl h) = inl (omega (arith, h))
      by_case (inr h) = inr (omega (arith, h))

  one_leaf : (G : List Pick) → AtMostOne G → Only k [] G → Only i [] G → k ≡ i
  one_leaf [] d ok oi = absurd ok
  one_leaf (g ∷ []) d (inl ok) (inl oi) = sym (eqb-true g.index k ok.0) ∙ eqb-true g.index i oi.0
  one_leaf (g ∷ []) d (inl ok) (inr oi) = absurd oi.1
  one_leaf (g ∷ []) d (inr ok) oi = absurd ok.1
  one_leaf (g ∷ g' ∷ G) d ok oi = absurd d

  group_together : (fs : Fields) (s t : Step) (q p : List Step) → FieldsTogether fs s.repetition t.repetition q p → ShapeTogether (group fs) (s ∷ q) (t ∷ p)
  group_together fs s t q p f G d ok oi uk ui l w = by_place (s.place == t.place) refl
    where
      by_count : (s.place == t.place) ≡ false → (a : ℕ) → max_repetition (t ∷ p) ≡ a → (s.place < t.place) ⊎ (t.place ≤ s.place) → (0 < max_repetition (t ∷ p)) ⊎ ((s.place < t.place) × (max_repetition (t ∷ p) ≡ 0))
      by_count x (suc a) z o = inl (omega (arith, z))
      by_count x zero z (inl o) = inr (o, z)
      by_count x zero z (inr o) =
          let n : s.place ≡ t.place → ⊥ = λ e. true≢false (sym (eq-eqb s.place t.place e) ∙ x) in
          absurd (true≢false (sym w ∙ field_order k i fs s.repetition t.repetition q p z s.place t.place G ok oi ui (below n o) (far_order fs G)))
        where
          below : (s.place ≡ t.place → ⊥) → t.place ≤ s.place → t.place < s.place
          below n o = by_case (compared t.place s.place)
            where
              by_case : (t.place < s.place) ⊎ (s.place ≤ t.place) → t.place < s.place
              by_case (inl h) = h
              by_case (inr h) = let e : s.place ≡ t.place = omega (arith, h, o) in absurd (n e)

      by_place : (b : Bool) → (s.place == t.place) ≡ b → Together (k ≡ i) (Unit {0}) (s ∷ q) (t ∷ p)
      by_place true x =
          let e : s.place ≡ t.place = eqb-true s.place t.place x in
          subst (λ (j : ℕ). Together (k ≡ i) (Unit {0}) (s ∷ q) (step j t.repetition ∷ p)) e
          (along s.place s.repetition t.repetition q p (f s.place G d ok (subst (λ (j : ℕ). Only i (step j t.repetition ∷ p) G) (sym e) oi) uk (subst (λ (j : ℕ). is_leaf_path fs (step j t.repetition ∷ p) ≡ true) (sym e) ui) (level_rest s t q p l) w))
      by_place false x = apart s t q p tt (x, apart_level s t q p x l, by_count x (max_repetition (t ∷ p)) refl (compared s.place t.place))

  mutual
    fields_together : (fs : Fields) (c e : Repetition) (q p : List Step) → FieldsTogether fs c e q p
    fields_together no_fields c e q p a G d ok oi uk ui l w = absurd (true≢false (sym uk))
    fields_together (field m r h fs) c e q p a G d ok oi uk ui l w =
        through_together m r h fs c e q p (λ G d ok oi uk ui l w. shape_together h q p G d ok oi uk ui l w) (λ a G d ok oi uk ui l w. fields_together fs c e q p a G d ok oi uk ui l w) a G d ok oi uk ui l w

    shape_together : (h : Shape) (q p : List Step) → ShapeTogether h q p
    shape_together (leaf j) [] [] G d ok oi uk ui l w = same_leaf (one_leaf G d ok oi)
    shape_together (leaf j) [] (t ∷ p) G d ok oi uk ui l w = absurd (true≢false (sym ui))
    shape_together (leaf j) (s ∷ q) p G d ok oi uk ui l w = absurd (true≢false (sym uk))
    shape_together (group no_fields) [] p G d ok oi uk ui l w = absurd (true≢false (sym uk))
    shape_together (group (field m r h fs)) [] p G d ok oi uk ui l w = absurd (true≢false (sym uk))
    shape_together (group no_fields) (s ∷ q) [] G d ok oi uk ui l w = absurd (true≢false (sym ui))
    shape_together (group (field m r h fs)) (s ∷ q) [] G d ok oi uk ui l w = absurd (true≢false (sym ui))
    shape_together (group fs) (s ∷ q) (t ∷ p) G d ok oi uk ui l w = group_together fs s t q p (λ a G d ok oi uk ui l w. fields_together fs s.repetition t.repetition q p a G d ok oi uk ui l w) G d ok oi uk ui l w

-- ---- the later leaf has the longer level

-- a leaf below repeated fields isn't one of the level
far_through : (k : ℕ) (m : List ℕ) (r : Repetition) (s : Shape) (fs : Fields) (c : Repetition) (q : List Step) → 0 < max_repetition (step 0 c ∷ q)
    → ((G : List Pick) → Only k q G → is_shape_path s q ≡ true → 0 < max_repetition q → HasNone k (shape_near_order s G))
    → ((j : ℕ) (G : List Pick) → Only k (step j c ∷ q) G → is_leaf_path fs (step j c ∷ q) ≡ true → HasNone k (near_order fs G))
    → (j : ℕ) (G : List Pick) → Only k (step j c ∷ q) G → is_leaf_path (field m r s fs) (step j c ∷ q) ≡ true → HasNone k (near_order (field m r s fs) G)
far_through k m r s fs c q z f g zero G o u =
    let a : (same_repetition c r ≡ true) × (is_shape_path s q ≡ true) = and_parts _ _ u in
    none_append k (unless_repeated r (shape_near_order s (first_picks G))) (near_order fs (later_picks G))
    (by_repetition r (subst (λ (x : Repetition). 0 < repetition_count x + max_repetition q) (same_repetition-true c r a.0) z) (f (first_picks G) (only_behind k c q G o) a.1))
    (near_none k fs (later_picks G) (beside_first k c q G o))
  where
    by_repetition : (r : Repetition) → 0 < repetition_count r + max_repetition q → (0 < max_repetition q → HasNone k (shape_near_order s (first_picks G))) → HasNone k (unless_repeated r (shape_near_order s (first_picks G)))
    by_repetition required z f = f (omega (arith, z))
    by_repetition optional z f = f (omega (arith, z))
    by_repetition repeated z f = tt
far_through k m r s fs c q z f g (suc j) G o u =
    none_append k (unless_repeated r (shape_near_order s (first_picks G))) (near_order fs (later_picks G))
    (unless_none k r (shape_near_order s (first_picks G)) (shape_near_none k s (first_picks G) (behind_later k j c q G o)))
    (g j (later_picks G) (only_beside k j c q G o) u)

mutual
  far_not_near : (k : ℕ) (fs : Fields) (c : Repetition) (q : List Step) → 0 < max_repetition (step 0 c ∷ q) → (j : ℕ) (G : List Pick) → Only k (step j c ∷ q) G → is_leaf_path fs (step j c ∷ q) ≡ true → HasNone k (near_order fs G)
  far_not_near k no_fields c q z j G o u = tt
  far_not_near k (field m r s fs) c q z j G o u = far_through k m r s fs c q z (λ G o u z. shape_far_not_near k s q z G o u) (λ j G o u. far_not_near k fs c q z j G o u) j G o u

  shape_far_not_near : (k : ℕ) (s : Shape) (q : List Step) → 0 < max_repetition q → (G : List Pick) → Only k q G → is_shape_path s q ≡ true → HasNone k (shape_near_order s G)
  shape_far_not_near k (leaf j) [] z G o u = absurd (omega (arith, z))
  shape_far_not_near k (leaf j) (t ∷ q) z G o u = absurd (true≢false (sym u))
  shape_far_not_near k (group fs) [] z G o u = absurd (omega (arith, z))
  shape_far_not_near k (group fs) (t ∷ q) z G o u = far_not_near k fs t.repetition q z t.place G o u

module _ (k i : ℕ) where
  abbrev ShapeLonger : Shape → List Step → List Step → Type 0
  ShapeLonger h q p = (G : List Pick) → Only k q G → Only i p G → is_shape_path h q ≡ true → is_shape_path h p ≡ true → begins_with (chain_end p) (chain_end q) ≡ true
      → comes_first k i (shape_near_order h G ++ shape_far_order h G) ≡ true → begins_with (chain_end q) (chain_end p) ≡ true

  abbrev FieldsLonger : Fields → Repetition → Repetition → List Step → List Step → Type 0
  FieldsLonger fs c e q p = (a : ℕ) (G : List Pick) → Only k (step a c ∷ q) G → Only i (step a e ∷ p) G → is_leaf_path fs (step a c ∷ q) ≡ true → is_leaf_path fs (step a e ∷ p) ≡ true
      → begins_with (chain_end p) (chain_end q) ≡ true → comes_first k i (near_order fs G ++ far_order fs G) ≡ true → (c ≡ e) × (begins_with (chain_end q) (chain_end p) ≡ true)

  through_longer : (m : List ℕ) (r : Repetition) (h : Shape) (fs : Fields) (c e : Repetition) (q p : List Step) → ShapeLonger h q p → FieldsLonger fs c e q p → FieldsLonger (field m r h fs) c e q p
  through_longer m r h fs c e q p f g zero G ok oi uk ui l w =
      let x : (same_repetition c r ≡ true) × (is_shape_path h q ≡ true) = and_parts _ _ uk in
      let y : (same_repetition e r ≡ true) × (is_shape_path h p ≡ true) = and_parts _ _ ui in (
        same_repetition-true c r x.0 ∙ sym (same_repetition-true e r y.0),
        f (first_picks G) (only_behind k c q G ok) (only_behind i e p G oi) x.1 y.1 l
            (sym (field_first k i r (shape_near_order h (first_picks G)) (shape_far_order h (first_picks G)) (near_order fs (later_picks G)) (far_order fs (later_picks G))
            (near_none k fs (later_picks G) (beside_first k c q G ok)) (near_none i fs (later_picks G) (beside_first i e p G oi)) (far_none k fs (later_picks G) (beside_first k c q G ok)) (far_none i fs (later_picks G) (beside_first i e p G oi))) ∙ w),
      )
  through_longer m r h fs c e q p f g (suc a) G ok oi uk ui l w =
      let N = shape_near_order h (first_picks G) in
      let wk : Without k (first_picks G) = behind_later k a c q G ok in
      let wi : Without i (first_picks G) = behind_later i a e p G oi in
      g a (later_picks G) (only_beside k a c q G ok) (only_beside i a e p G oi) uk ui l
      (sym (other_first k i (unless_repeated r (shape_near_order h (first_picks G))) (where_repeated r (shape_near_order h (first_picks G)) ++ shape_far_order h (first_picks G)) (near_order fs (later_picks G)) (far_order fs (later_picks G))
      (unless_none k r N (shape_near_none k h (first_picks G) wk)) (unless_none i r N (shape_near_none i h (first_picks G) wi))
      (none_append k (where_repeated r N) (shape_far_order h (first_picks G)) (where_none k r N (shape_near_none k h (first_picks G) wk)) (shape_far_none k h (first_picks G) wk))
      (none_append i (where_repeated r N) (shape_far_order h (first_picks G)) (where_none i r N (shape_near_none i h (first_picks G) wi)) (shape_far_none i h (first_picks G) wi))) ∙ w)

  group_longer : (fs : Fields) (s t : Step) (q p : List Step) → FieldsLonger fs s.repetition t.repetition q p → ShapeLonger (group fs) (s ∷ q) (t ∷ p)
  group_longer fs s t q p f G ok oi uk ui l w = by_place (s.place == t.place) refl
    where
      by_count : (t.place == s.place) ≡ false → (a : ℕ) → max_repetition (s ∷ q) ≡ a → begins_with (chain_end (s ∷ q)) (chain_end (t ∷ p)) ≡ true
      by_count d zero z = ap (λ (L : List Step). begins_with L (chain_end (t ∷ p))) (no_level (s ∷ q) z)
      by_count d (suc a) z = absurd (true≢false (sym w ∙ second_first k i (near_order fs G) (far_order fs G) (far_not_near k fs s.repetition q (omega (arith, z)) s.place G ok uk) (near_some i fs t.repetition p (apart_level t s p q d l) t.place G oi ui)))

      by_place : (b : Bool) → (s.place == t.place) ≡ b → begins_with (chain_end (s ∷ q)) (chain_end (t ∷ p)) ≡ true
      by_place true x =
          let e : s.place ≡ t.place = eqb-true s.place t.place x in
          let y : (s.repetition ≡ t.repetition) × (begins_with (chain_end q) (chain_end p) ≡ true) = f s.place G ok (subst (λ (j : ℕ). Only i (step j t.repetition ∷ p) G) (sym e) oi) uk (subst (λ (j : ℕ). is_leaf_path fs (step j t.repetition ∷ p) ≡ true) (sym e) ui) (level_rest t s p q l) w in
          ap₂ (λ (j : ℕ) (r : Repetition). begins_with (chain_end (s ∷ q)) (chain_end (step j r ∷ p))) (sym e) (sym y.0) ∙ along_level s.place s.repetition (chain_end q) (chain_end p) y.1
      by_place false x = by_count (ne_eqb t.place s.place (λ e. true≢false (sym (eq-eqb s.place t.place (sym e)) ∙ x))) (max_repetition (s ∷ q)) refl

  mutual
    fields_longer : (fs : Fields) (c e : Repetition) (q p : List Step) → FieldsLonger fs c e q p
    fields_longer no_fields c e q p a G ok oi uk ui l w = absurd (true≢false (sym uk))
    fields_longer (field m r h fs) c e q p a G ok oi uk ui l w =
        through_longer m r h fs c e q p (λ G ok oi uk ui l w. shape_longer h q p G ok oi uk ui l w) (λ a G ok oi uk ui l w. fields_longer fs c e q p a G ok oi uk ui l w) a G ok oi uk ui l w

    shape_longer : (h : Shape) (q p : List Step) → ShapeLonger h q p
    shape_longer (leaf j) [] p G ok oi uk ui l w = refl
    shape_longer (leaf j) (s ∷ q) p G ok oi uk ui l w = absurd (true≢false (sym uk))
    shape_longer (group fs) [] p G ok oi uk ui l w = refl
    shape_longer (group no_fields) (s ∷ q) [] G ok oi uk ui l w = absurd (true≢false (sym ui))
    shape_longer (group (field m r h fs)) (s ∷ q) [] G ok oi uk ui l w = absurd (true≢false (sym ui))
    shape_longer (group fs) (s ∷ q) (t ∷ p) G ok oi uk ui l w = group_longer fs s t q p (λ a G ok oi uk ui l w. fields_longer fs s.repetition t.repetition q p a G ok oi uk ui l w) G ok oi uk ui l w

pub later_reads_both : LaterReadsBoth
later_reads_both fs F i k p q h d ei ek l w = (longer, shape_together k i (group fs) q p (picks F) (leaves_apart fs F h d) (selected_only F k q ek) (selected_only F i p ei) (leaf_selected fs F k q h ek) (leaf_selected fs F i p h ei) longer w)
  where
    by_level : (b : Bool) → (b || begins_with (chain_end p) (chain_end q)) ≡ true → begins_with (chain_end q) (chain_end p) ≡ b → begins_with (chain_end q) (chain_end p) ≡ true
    by_level true l e = e
    by_level false l e = shape_longer k i (group fs) q p (picks F) (selected_only F k q ek) (selected_only F i p ei) (leaf_selected fs F k q h ek) (leaf_selected fs F i p h ei) l w

    longer : begins_with (chain_end q) (chain_end p) ≡ true
    longer = by_level (begins_with (chain_end q) (chain_end p)) l refl
