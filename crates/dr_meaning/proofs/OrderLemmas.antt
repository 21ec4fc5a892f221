-- Each selected leaf comes once in schema order and in reading order.
use Rattle.std.proofs.Common.{◌≡◌, inl, inr, ℕ, zero, suc, ◌+◌, List, [], ◌∷◌, ◌++◌, true, ◌&&◌, refl, sym, ◌∙◌, subst, true≢false, arith}
use Rattle.std.proofs.lemmas.Bool.{and_parts}
use Rattle.dr_meaning.specs.Schema.{Repetition, required, optional, repeated, Fields, no_fields, field, Shape, leaf, group}
use Rattle.dr_meaning.specs.Path.{Step, is_leaf_path, is_shape_path, same_repetition, through}
use Rattle.dr_meaning.specs.Automaton.{Pick, picks, first_picks, later_picks, indexes, schema_order_in, shape_schema_order, unless_repeated, where_repeated, near_order, far_order, shape_near_order, shape_far_order}
use Rattle.dr_meaning.specs.OrderLaws.{times, OrdersHaveEachOnce}
use Rattle.dr_meaning.proofs.ProjectionLemmas.{step}
use Rattle.dr_meaning.proofs.WalkLemmas.{Without, Only, without_behind, without_beside, only_behind, beside_first, only_beside, behind_later, picks_only}

pub times_append : (i : ℕ) (xs ys : List ℕ) → times i (xs ++ ys) ≡ times i xs + times i ys
times_append i [] ys = omega arith
times_append i (x ∷ xs) ys = omega (arith, times_append i xs ys)

none_of_leaf : (i : ℕ) (G : List Pick) → Without i G → times i (indexes G) ≡ 0
none_of_leaf i [] h = refl
none_of_leaf i (g ∷ G) h = rw h.0 (omega (arith, none_of_leaf i G h.1))

one_of_leaf : (i : ℕ) (p : List Step) (G : List Pick) → Only i p G → times i (indexes G) ≡ 1
one_of_leaf i p [] h = absurd h
one_of_leaf i p (g ∷ G) (inl h) = rw h.0 (omega (arith, none_of_leaf i G h.2))
one_of_leaf i p (g ∷ G) (inr h) = rw h.0 (omega (arith, one_of_leaf i p G h.1))

-- ---- schema order

mutual
  none_in_schema : (i : ℕ) (fs : Fields) (G : List Pick) → Without i G → times i (schema_order_in fs G) ≡ 0
  none_in_schema i no_fields G h = refl
  none_in_schema i (field m r s fs) G h = omega (arith, times_append i (shape_schema_order s (first_picks G)) (schema_order_in fs (later_picks G)), none_in_shape i s (first_picks G) (without_behind i G h), none_in_schema i fs (later_picks G) (without_beside i G h))

  none_in_shape : (i : ℕ) (s : Shape) (G : List Pick) → Without i G → times i (shape_schema_order s G) ≡ 0
  none_in_shape i (leaf k) G h = none_of_leaf i G h
  none_in_shape i (group fs) G h = none_in_schema i fs G h

-- the field at a place: the first, or a later one
through_once : (i : ℕ) (s : Shape) (fs : Fields) (r q : Repetition) (p : List Step) (f : List Pick → ℕ) (g : List Pick → ℕ) (whole : List Pick → ℕ)
    → ((G : List Pick) → whole G ≡ f (first_picks G) + g (later_picks G)) → ((G : List Pick) → Without i G → f G ≡ 0) → ((G : List Pick) → Without i G → g G ≡ 0)
    → ((G : List Pick) → Only i p G → is_shape_path s p ≡ true → f G ≡ 1) → ((j : ℕ) (G : List Pick) → Only i (step j q ∷ p) G → is_leaf_path fs (step j q ∷ p) ≡ true → g G ≡ 1)
    → (j : ℕ) (G : List Pick) → Only i (step j q ∷ p) G → through j (same_repetition q r && is_shape_path s p) (λ (j : ℕ). is_leaf_path fs (step j q ∷ p)) ≡ true → whole G ≡ 1
through_once i s fs r q p f g whole e nf ng of og zero G o h =
    omega (arith, e G, of (first_picks G) (only_behind i q p G o) (and_parts (same_repetition q r) (is_shape_path s p) h).1, ng (later_picks G) (beside_first i q p G o))
through_once i s fs r q p f g whole e nf ng of og (suc j) G o h = omega (arith, e G, nf (first_picks G) (behind_later i j q p G o), og j (later_picks G) (only_beside i j q p G o) h)

mutual
  once_in_schema : (i : ℕ) (fs : Fields) (q : Repetition) (p : List Step) (j : ℕ) (G : List Pick) → Only i (step j q ∷ p) G → is_leaf_path fs (step j q ∷ p) ≡ true → times i (schema_order_in fs G) ≡ 1
  once_in_schema i no_fields q p j G o h = absurd (true≢false (sym h))
  once_in_schema i (field m r s fs) q p j G o h =
      through_once i s fs r q p (λ H. times i (shape_schema_order s H)) (λ H. times i (schema_order_in fs H)) (λ H. times i (schema_order_in (field m r s fs) H))
      (λ H. times_append i (shape_schema_order s (first_picks H)) (schema_order_in fs (later_picks H))) (λ H w. none_in_shape i s H w) (λ H w. none_in_schema i fs H w)
      (λ H o h. once_in_shape i s p H o h) (λ j H o h. once_in_schema i fs q p j H o h) j G o h

  once_in_shape : (i : ℕ) (s : Shape) (p : List Step) (G : List Pick) → Only i p G → is_shape_path s p ≡ true → times i (shape_schema_order s G) ≡ 1
  once_in_shape i (leaf k) p G o h = one_of_leaf i p G o
  once_in_shape i (group no_fields) [] G o h = absurd (true≢false (sym h))
  once_in_shape i (group (field m r s fs)) [] G o h = absurd (true≢false (sym h))
  once_in_shape i (group fs) (t ∷ p) G o h = once_in_schema i fs t.repetition p t.place G o h

-- ---- reading order: what is near and what is far, together

split_near : (i : ℕ) (r : Repetition) (xs : List ℕ) → times i (unless_repeated r xs) + times i (where_repeated r xs) ≡ times i xs
split_near i required xs = omega arith
split_near i optional xs = omega arith
split_near i repeated xs = omega arith

abbrev pub both_in : ℕ → Fields → List Pick → ℕ
both_in i fs G = times i (near_order fs G) + times i (far_order fs G)

abbrev pub both_of : ℕ → Shape → List Pick → ℕ
both_of i s G = times i (shape_near_order s G) + times i (shape_far_order s G)

both_step : (i : ℕ) (m : List ℕ) (r : Repetition) (s : Shape) (fs : Fields) (G : List Pick) → both_in i (field m r s fs) G ≡ both_of i s (first_picks G) + both_in i fs (later_picks G)
both_step i m r s fs G =
    let near : List ℕ = shape_near_order s (first_picks G) in
    omega (
      arith,
      times_append i (unless_repeated r near) (near_order fs (later_picks G)),
      times_append i (where_repeated r near ++ shape_far_order s (first_picks G)) (far_order fs (later_picks G)),
      times_append i (where_repeated r near) (shape_far_order s (first_picks G)),
      times_append i (where_repeated r near) (shape_far_order s (first_picks G) ++ far_order fs (later_picks G)),
      times_append i (shape_far_order s (first_picks G)) (far_order fs (later_picks G)),
      split_near i r near,
    )

mutual
  pub none_in_both : (i : ℕ) (fs : Fields) (G : List Pick) → Without i G → both_in i fs G ≡ 0
  none_in_both i no_fields G h = omega arith
  none_in_both i (field m r s fs) G h = omega (arith, both_step i m r s fs G, none_of_both i s (first_picks G) (without_behind i G h), none_in_both i fs (later_picks G) (without_beside i G h))

  pub none_of_both : (i : ℕ) (s : Shape) (G : List Pick) → Without i G → both_of i s G ≡ 0
  none_of_both i (leaf k) G h = omega (arith, none_of_leaf i G h)
  none_of_both i (group fs) G h = none_in_both i fs G h

mutual
  once_in_both : (i : ℕ) (fs : Fields) (q : Repetition) (p : List Step) (j : ℕ) (G : List Pick) → Only i (step j q ∷ p) G → is_leaf_path fs (step j q ∷ p) ≡ true → both_in i fs G ≡ 1
  once_in_both i no_fields q p j G o h = absurd (true≢false (sym h))
  once_in_both i (field m r s fs) q p j G o h =
      through_once i s fs r q p (both_of i s) (both_in i fs) (both_in i (field m r s fs)) (both_step i m r s fs) (λ H w. none_of_both i s H w) (λ H w. none_in_both i fs H w)
      (λ H o h. once_of_both i s p H o h) (λ j H o h. once_in_both i fs q p j H o h) j G o h

  pub once_of_both : (i : ℕ) (s : Shape) (p : List Step) (G : List Pick) → Only i p G → is_shape_path s p ≡ true → both_of i s G ≡ 1
  once_of_both i (leaf k) p G o h = omega (arith, one_of_leaf i p G o)
  once_of_both i (group no_fields) [] G o h = absurd (true≢false (sym h))
  once_of_both i (group (field m r s fs)) [] G o h = absurd (true≢false (sym h))
  once_of_both i (group fs) (t ∷ p) G o h = once_in_both i fs t.repetition p t.place G o h

no_shift : (n : ℕ) → 0 + n ≡ n
no_shift n = omega arith

pub orders_have_each_once : OrdersHaveEachOnce
orders_have_each_once fs F i p e h =
    let o : Only i p (picks F) = subst (λ (x : ℕ). Only x p (picks F)) (no_shift i) (picks_only i 0 p F e) in
    (once_in_shape i (group fs) p (picks F) o h, times_append i (near_order fs (picks F)) (far_order fs (picks F)) ∙ once_of_both i (group fs) p (picks F) o h)
