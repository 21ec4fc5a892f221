-- Along the condition's chain: what the walk of a node tells of its branches is what the query keeps.
use Rattle.std.proofs.Common.{◌≡◌, ◌⊎◌, inl, inr, ℕ, zero, suc, ◌+◌, ◌<◌, ◌≤◌, List, [], ◌∷◌, length, Bool, true, false, Option, None, Some, refl, sym, ap, subst, ◌∙◌, append-nil, true≢false, arith}
use Rattle.std.specs.Prelude.{if◌then◌else◌}
use Rattle.std.proofs.lemmas.Bool.{and_parts, eqb-true, leb-true}
use Rattle.dr_meaning.specs.Schema.{Repetition, required, optional, repeated, Fields, no_fields, field, Shape, leaf, group, repetition_count, repeated_fields, shape_repeated_fields, is_repeated}
use Rattle.dr_meaning.specs.Path.{Step, is_leaf_path, is_shape_path, same_repetition, max_repetition, chain_end, up_to}
use Rattle.dr_meaning.specs.Record.{Node, no_slots, Instances, no_instances, instance, Instance, atom, inner, single, count_instances, fits_repetition, all_instances, is_instance, instances_at, put_at}
use Rattle.dr_meaning.specs.Automaton.{Pick, first_picks, later_picks}
use Rattle.dr_meaning.specs.Walk.{Move, Depth, inside, begun_later, first_slot, other_slots, enclosed, later_moves, repeated_moves, by_repetition, where_selected, moves_in, far_moves, shape_near_moves, shape_far_moves}
use Rattle.dr_meaning.specs.WalkLaws.{triplets_of}
use Rattle.dr_meaning.proofs.ProjectionLemmas.{step}
use Rattle.dr_meaning.proofs.Blocks.{same_repetition-true}
use Rattle.dr_meaning.proofs.WalkLemmas.{Only, Without, IsNode, FirstSlot, first_of_node, only_behind, only_beside, beside_first, behind_later, of_enclosed, far_in, far_in_nothing, far_nothing, shape_near_nothing, shape_far_nothing}
use Rattle.dr_kept_laws.specs.ChainNumbers.{own_number, numbers_in, shape_numbers}
use Rattle.dr_kept_laws.specs.Leavings.{Standing, off, on, at_place, if_selected, each_leaving, field_leavings, own_leaving, node_leavings, instance_leavings}
use Rattle.dr_kept_laws.proofs.RowAnswers.{instance_answers, many_answers, field_answers, node_answers, inner_answers, instance_count}
use Rattle.dr_kept_laws.proofs.ChainNumberLemmas.{shape_levels, nothing_numbered}
use Rattle.dr_kept_laws.proofs.OffChain.{Off, same_off, no_leavings, shape_near_off, instance_off, field_off, far_off, shape_far_off}
use Rattle.dr_kept_laws.proofs.ChainHeads.{head_before, head_behind, own_within, numbers_within, shape_numbers_within}
use Rattle.dr_kept_laws.proofs.AtMostOnce.{shape_counted}
use Rattle.dr_kept_laws.proofs.OnChain.{Told, both_told, told_behind, told_before, off_told, bare_told, same_told, enclosed_told}
use Rattle.dr_moves.specs.Tour.{over}
use Rattle.dr_moves.specs.Condition.{Watch}
use Rattle.dr_moves.proofs.NearLemmas.{shape_near_silent, shape_far_silent}

-- ---- the level of a path

pub level_none : (p : List Step) → max_repetition p ≡ 0 → chain_end p ≡ []
level_none [] h = refl
level_none (s ∷ p) h = ap (up_to s) (level_none p (omega (arith, h))) ∙ by_repetition_of s.repetition (omega (arith, h))
  where
    by_repetition_of : (r : Repetition) → repetition_count r ≡ 0 → (if is_repeated r then s ∷ [] else []) ≡ []
    by_repetition_of required e = refl
    by_repetition_of optional e = refl
    by_repetition_of repeated e = absurd (omega (arith, e))

own_level : (s : Step) (r : Repetition) → 0 < repetition_count r → (if is_repeated r then s ∷ [] else []) ≡ s ∷ []
own_level s required h = absurd (omega (arith, h))
own_level s optional h = absurd (omega (arith, h))
own_level s repeated h = refl

level_far : (s : Step) (p : List Step) → 0 < max_repetition (s ∷ p) → chain_end (s ∷ p) ≡ s ∷ chain_end p
level_far s [] h = own_level s s.repetition (omega (arith, h))
level_far s (t ∷ p) h = by_max (max_repetition (t ∷ p)) refl (level_far t p)
  where
    by_max : (m : ℕ) → max_repetition (t ∷ p) ≡ m → (0 < max_repetition (t ∷ p) → chain_end (t ∷ p) ≡ t ∷ chain_end p) → up_to s (chain_end (t ∷ p)) ≡ s ∷ chain_end (t ∷ p)
    by_max zero e f = let n : chain_end (t ∷ p) ≡ [] = level_none (t ∷ p) e in subst (λ (L : List Step). up_to s L ≡ s ∷ L) (sym n) (own_level s s.repetition (omega (arith, h, e)))
    by_max (suc m) e f = subst (λ (L : List Step). up_to s L ≡ s ∷ L) (sym (f (omega (arith, e)))) refl

-- ---- the walk of a shape, of fields

abbrev pub ShapeTold : Watch → Shape → List Step → Type 0
ShapeTold w s p = (G : List Pick) → Only w.last p G → is_shape_path s p ≡ true → 0 < max_repetition p → (k : ℕ) (at : Depth) (x : Instance) → is_instance s x ≡ true → (row : Instances → Node) (test : Node → Bool)
    → Told w (Some (shape_numbers s k p)) (shape_far_moves s G k at (Some x)) (instance_answers (chain_end p) row test x) (instance_leavings s G k (on (chain_end p) row test) (Some x))

abbrev pub FieldsTold : Watch → Fields → Repetition → List Step → Type 0
FieldsTold w fs e p = (j : ℕ) (G : List Pick) → Only w.last (step j e ∷ p) G → is_leaf_path fs (step j e ∷ p) ≡ true → 0 < max_repetition (step j e ∷ p) → (k : ℕ) (at : Depth) (n : Node) → IsNode fs n
    → (row : Instances → Node) (test : Node → Bool)
    → Told w (Some (numbers_in fs k (step j e ∷ p))) (far_moves fs G k at n) (field_answers (chain_end p) row test (instances_at j n)) (node_leavings fs G k (at_place j (on (chain_end p) row test)) n)

more_than_one : (r : Repetition) (x y : Instance) (ys : Instances) → is_repeated r ≡ false → (instance x (instance y ys) ≡ no_instances) ⊎ (fits_repetition r (count_instances (instance x (instance y ys))) ≡ true) → ⊥
more_than_one r x y ys e (inl h) = cc
more_than_one required x y ys e (inr h) = omega (arith, eqb-true _ _ h)
more_than_one optional x y ys e (inr h) = omega (arith, leb-true _ _ h)
more_than_one repeated x y ys e (inr h) = true≢false e

-- one triplet in an instance at the chain's end
pub once_at_end : (i : ℕ) (s : Shape) (p : List Step) (G : List Pick) → Only i p G → is_shape_path s p ≡ true → (k : ℕ) (at : Depth) (x : Instance) → is_instance s x ≡ true → shape_numbers s k p ≡ []
    → length (triplets_of i (moves_in (shape_near_moves s G) (shape_far_moves s G k) at (Some x))) ≤ 1
once_at_end i s p G o u k at x v e =
    let l : chain_end p ≡ [] = level_none p (sym (shape_counted s p k u) ∙ ap length e) in
    let n : length (triplets_of i (moves_in (shape_near_moves s G) (shape_far_moves s G k) at (Some x))) ≡ length (instance_answers (chain_end p) (λ ys. no_slots) (λ m. true) x) = instance_count i s p G o u k at x v (λ ys. no_slots) (λ m. true) in
    let q : length (instance_answers (chain_end p) (λ ys. no_slots) (λ m. true) x) ≡ 1 = ap (λ (L : List Step). length (instance_answers L (λ ys. no_slots) (λ m. true) x)) l in
    omega (arith, n, q)

module _ (w : Watch) where
  -- an instance, its own leaves too
  pub instance_told : (s : Shape) (p : List Step) → ShapeTold w s p → (G : List Pick) → Only w.last p G → is_shape_path s p ≡ true → (k : ℕ) (at : Depth) (x : Instance) → is_instance s x ≡ true → (row : Instances → Node) (test : Node → Bool)
      → Told w (Some (shape_numbers s k p)) (moves_in (shape_near_moves s G) (shape_far_moves s G k) at (Some x)) (instance_answers (chain_end p) row test x) (instance_leavings s G k (on (chain_end p) row test) (Some x))
  instance_told s p f G o u k at x v row test = by_max (max_repetition p) refl
    where
      none_below : (s : Shape) → instance_leavings s G k off (Some x) ≡ instance_leavings s G k (on [] row test) (Some x)
      none_below (leaf j) = refl
      none_below (group fs) = refl

      by_max : (m : ℕ) → max_repetition p ≡ m
          → Told w (Some (shape_numbers s k p)) (moves_in (shape_near_moves s G) (shape_far_moves s G k) at (Some x)) (instance_answers (chain_end p) row test x) (instance_leavings s G k (on (chain_end p) row test) (Some x))
      by_max zero e =
          let l : chain_end p ≡ [] = level_none p e in
          let n : shape_numbers s k p ≡ [] = sym (shape_levels s p k u) ∙ ap (shape_numbers s k) l ∙ nothing_numbered s k in
          let m : instance_leavings s G k off (Some x) ≡ instance_leavings s G k (on (chain_end p) row test) (Some x) = none_below s ∙ ap (λ (L : List Step). instance_leavings s G k (on L row test) (Some x)) (sym l) in
          let q : triplets_of w.last (shape_far_moves s G k at (Some x)) ≡ [] = shape_far_silent w.last s p e G o u k at (Some x) in
          subst (λ (N : List ℕ). Told w (Some N) (moves_in (shape_near_moves s G) (shape_far_moves s G k) at (Some x)) (instance_answers (chain_end p) row test x) (instance_leavings s G k (on (chain_end p) row test) (Some x))) (sym n)
          (told_before w (Some []) (shape_near_moves s G at (Some x)) (shape_far_moves s G k at (Some x)) (instance_answers (chain_end p) row test x) [] (instance_leavings s G k (on (chain_end p) row test) (Some x)) q
          (bare_told w 0 0 [] _ _ (shape_near_off 0 0 s G at (Some x)))
          (off_told w k (k + shape_repeated_fields s) [] _ _ _ tt q (same_off k (k + shape_repeated_fields s) _ _ _ m (shape_far_off s G k at (Some x)))))
      by_max (suc m) e =
          told_behind w (Some (shape_numbers s k p)) (shape_near_moves s G at (Some x)) (shape_far_moves s G k at (Some x)) (instance_answers (chain_end p) row test x) [] (instance_leavings s G k (on (chain_end p) row test) (Some x))
          (shape_near_silent w.last s p (omega (arith, e)) G o u at (Some x))
          (bare_told w 0 0 (shape_numbers s k p) (shape_near_moves s G at (Some x)) [] (shape_near_off 0 0 s G at (Some x)))
          (f G o u (omega (arith, e)) k at x v row test)

  absent_told : (low high : ℕ) (s : Shape) (G : List Pick) (k : ℕ) (N : List ℕ) (ms : List Move) (vs : List Bool) (a : Standing) → Off low high ms (instance_leavings s G k off None) → Told w (Some N) ms vs (instance_leavings s G k a None)
  absent_told low high s G k N ms vs a x = same_told w (Some N) ms vs vs [] (instance_leavings s G k a None) refl (sym (no_leavings s G k a)) (bare_told w low high N ms vs (same_off low high ms _ [] (no_leavings s G k off) x))

  one_told : (s : Shape) (p : List Step) → ShapeTold w s p → (G : List Pick) → Only w.last p G → is_shape_path s p ≡ true → (k : ℕ) (at : Depth) (x : Instance) → is_instance s x ≡ true → (row : Instances → Node) (test : Node → Bool)
      → Told w (Some (k ∷ shape_numbers s (suc k) p)) (enclosed k (moves_in (shape_near_moves s G) (shape_far_moves s G (suc k)) at (Some x))) (instance_answers (chain_end p) row test x)
      (own_leaving k (on (chain_end p) row test) (instance_leavings s G (suc k) (on (chain_end p) row test)) x)
  one_told s p f G o u k at x v row test = enclosed_told w k (shape_numbers s (suc k) p) _ (chain_end p) row test x (instance_leavings s G (suc k) (on (chain_end p) row test) (Some x))
      (once_at_end w.last s p G o u (suc k) at x v) (instance_told s p f G o u (suc k) at x v row test)

  one_count : (s : Shape) (p : List Step) (G : List Pick) → Only w.last p G → is_shape_path s p ≡ true → (k : ℕ) (at : Depth) (x : Instance) → is_instance s x ≡ true → (row : Instances → Node) (test : Node → Bool)
      → length (triplets_of w.last (enclosed k (moves_in (shape_near_moves s G) (shape_far_moves s G (suc k)) at (Some x)))) ≡ length (instance_answers (chain_end p) row test x)
  one_count s p G o u k at x v row test = ap length (of_enclosed w.last k (moves_in (shape_near_moves s G) (shape_far_moves s G (suc k)) at (Some x))) ∙ instance_count w.last s p G o u (suc k) at x v row test

  later_told : (s : Shape) (p : List Step) → ShapeTold w s p → (G : List Pick) → Only w.last p G → is_shape_path s p ≡ true → (k : ℕ) (at : Depth) (xs : Instances) → all_instances (is_instance s) xs ≡ true → (row : Instances → Node) (test : Node → Bool)
      → Told w (Some (k ∷ shape_numbers s (suc k) p)) (later_moves k (λ (x : Option Instance). moves_in (shape_near_moves s G) (shape_far_moves s G (suc k)) (inside repeated (begun_later at) x) x) xs) (many_answers (chain_end p) row test xs)
      (each_leaving (own_leaving k (on (chain_end p) row test) (instance_leavings s G (suc k) (on (chain_end p) row test))) xs)
  later_told s p f G o u k at no_instances v row test = record { tour = over; moves = refl; told = λ c h. refl; once = tt; only = tt }
  later_told s p f G o u k at (instance x xs) v row test =
      let b : (is_instance s x ≡ true) × (all_instances (is_instance s) xs ≡ true) = and_parts _ _ v in
      both_told w (Some (k ∷ shape_numbers s (suc k) p)) _ _ (instance_answers (chain_end p) row test x) (many_answers (chain_end p) row test xs) _ _
      (one_count s p G o u k (inside repeated (begun_later at) (Some x)) x b.0 row test)
      (one_told s p f G o u k (inside repeated (begun_later at) (Some x)) x b.0 row test)
      (later_told s p f G o u k at xs b.1 row test)

  -- the chain's field
  field_told : (r : Repetition) (s : Shape) (p : List Step) → ShapeTold w s p → (G : List Pick) → Only w.last p G → is_shape_path s p ≡ true → 0 < repetition_count r + max_repetition p → (k : ℕ) (at : Depth) (xs : Instances)
      → (xs ≡ no_instances) ⊎ (fits_repetition r (count_instances xs) ≡ true) → all_instances (is_instance s) xs ≡ true → (row : Instances → Node) (test : Node → Bool)
      → Told w (Some (own_number r k (λ j. shape_numbers s j p)))
      (where_selected G (by_repetition r (repeated_moves k (λ x. moves_in (shape_near_moves s G) (shape_far_moves s G (suc k)) (inside r at x) x) (λ x. moves_in (shape_near_moves s G) (shape_far_moves s G (suc k)) (inside r (begun_later at) x) x)) (λ x. shape_far_moves s G k (inside r at x) x) xs))
      (field_answers (chain_end p) row test xs)
      (if_selected G (field_leavings r (own_leaving k (on (chain_end p) row test) (instance_leavings s G (suc k) (on (chain_end p) row test))) (instance_leavings s G k (on (chain_end p) row test)) xs))
  field_told r s p f [] o u z k at xs h v row test = absurd o
  field_told required s p f (g ∷ G) o u z k at no_instances h v row test = absent_told k (k + shape_repeated_fields s) s (g ∷ G) k _ _ _ (on (chain_end p) row test) (shape_far_off s (g ∷ G) k (inside required at None) None)
  field_told optional s p f (g ∷ G) o u z k at no_instances h v row test = absent_told k (k + shape_repeated_fields s) s (g ∷ G) k _ _ _ (on (chain_end p) row test) (shape_far_off s (g ∷ G) k (inside optional at None) None)
  field_told repeated s p f (g ∷ G) o u z k at no_instances h v row test =
      bare_told w k (k + (1 + shape_repeated_fields s)) (k ∷ shape_numbers s (suc k) p) _ _
      (same_off k (k + (1 + shape_repeated_fields s)) _ _ [] (no_leavings s (g ∷ G) (suc k) off) (instance_off k (k + (1 + shape_repeated_fields s)) s (g ∷ G) (λ k at x. shape_far_off s (g ∷ G) k at x) (suc k) (inside repeated at None) None (omega arith) (omega arith)))
  field_told required s p f (g ∷ G) o u z k at (instance x no_instances) h v row test =
      same_told w _ _ _ _ _ _ (sym (append-nil (instance_answers (chain_end p) row test x))) refl (f (g ∷ G) o u (omega (arith, z)) k (inside required at (Some x)) x (and_parts _ _ v).0 row test)
  field_told required s p f (g ∷ G) o u z k at (instance x (instance y ys)) h v row test = absurd (more_than_one required x y ys refl h)
  field_told optional s p f (g ∷ G) o u z k at (instance x no_instances) h v row test =
      same_told w _ _ _ _ _ _ (sym (append-nil (instance_answers (chain_end p) row test x))) refl (f (g ∷ G) o u (omega (arith, z)) k (inside optional at (Some x)) x (and_parts _ _ v).0 row test)
  field_told optional s p f (g ∷ G) o u z k at (instance x (instance y ys)) h v row test = absurd (more_than_one optional x y ys refl h)
  field_told repeated s p f (g ∷ G) o u z k at (instance x xs) h v row test =
      let b : (is_instance s x ≡ true) × (all_instances (is_instance s) xs ≡ true) = and_parts _ _ v in
      both_told w (Some (k ∷ shape_numbers s (suc k) p)) _ _ (instance_answers (chain_end p) row test x) (many_answers (chain_end p) row test xs) _ _
      (one_count s p (g ∷ G) o u k (inside repeated at (Some x)) x b.0 row test)
      (one_told s p f (g ∷ G) o u k (inside repeated at (Some x)) x b.0 row test)
      (later_told s p f (g ∷ G) o u k at xs b.1 row test)

  through_told : (m : List ℕ) (r : Repetition) (s : Shape) (fs : Fields) (e : Repetition) (p : List Step) → ShapeTold w s p → FieldsTold w fs e p → FieldsTold w (field m r s fs) e p
  through_told m r s fs e p f g zero G o u z k at n v row test =
      let a : (same_repetition e r ≡ true) × (is_shape_path s p ≡ true) = and_parts _ _ u in
      let q : e ≡ r = same_repetition-true e r a.0 in
      let l : FirstSlot r s fs n = first_of_node m r s fs n v in
      let j = k + (repetition_count r + shape_repeated_fields s) in
      let N = own_number r k (λ i. shape_numbers s i p) in
      told_before w (Some N) (far_in r s (first_picks G) k at n) (far_moves fs (later_picks G) j at (other_slots n)) (field_answers (chain_end p) row test (instances_at 0 n)) _ (node_leavings fs (later_picks G) j (λ i. off) (other_slots n))
      (far_nothing w.last fs (later_picks G) j at (other_slots n) (beside_first w.last e p G o))
      (same_told w _ _ _ _ _ _ (ap (field_answers (chain_end p) row test) (sym l.2)) refl
      (field_told r s p f (first_picks G) (only_behind w.last e p G o) a.1 (subst (λ (x : Repetition). 0 < repetition_count x + max_repetition p) q z) k at (first_slot n) l.0 l.1 row test))
      (off_told w j (j + repeated_fields fs) N _ [] _ (head_before k j j (j + repeated_fields fs) (omega arith) N (own_within r s k p (λ i. shape_numbers_within s i p))) (far_nothing w.last fs (later_picks G) j at (other_slots n) (beside_first w.last e p G o)) (far_off fs (later_picks G) j at (other_slots n)))
  through_told m r s fs e p f g (suc i) G o u z k at n v row test =
      let l : FirstSlot r s fs n = first_of_node m r s fs n v in
      let j = k + (repetition_count r + shape_repeated_fields s) in
      let N = numbers_in fs j (step i e ∷ p) in
      let wi : Without w.last (first_picks G) = behind_later w.last i e p G o in
      told_behind w (Some N) (far_in r s (first_picks G) k at n) (far_moves fs (later_picks G) j at (other_slots n)) (field_answers (chain_end p) row test (instances_at (suc i) n)) _ (node_leavings fs (later_picks G) j (at_place i (on (chain_end p) row test)) (other_slots n))
      (far_in_nothing w.last r s (first_picks G) k at n (λ d y. shape_near_nothing w.last s (first_picks G) d y wi) (λ b d y. shape_far_nothing w.last s (first_picks G) b d y wi))
      (off_told w k j N _ [] _ (head_behind j (j + repeated_fields fs) k j (omega arith) N (numbers_within fs j (step i e ∷ p)))
      (far_in_nothing w.last r s (first_picks G) k at n (λ d y. shape_near_nothing w.last s (first_picks G) d y wi) (λ b d y. shape_far_nothing w.last s (first_picks G) b d y wi)) (field_off r s (first_picks G) (λ k at x. shape_far_off s (first_picks G) k at x) k at n))
      (same_told w _ _ _ _ _ _ (ap (field_answers (chain_end p) row test) (sym (l.4 i))) refl (g i (later_picks G) (only_beside w.last i e p G o) u z j at (other_slots n) l.3 row test))

  group_told : (fs : Fields) (t : Step) (p : List Step) → FieldsTold w fs t.repetition p → ShapeTold w (group fs) (t ∷ p)
  group_told fs t p f G o u z k at (atom v) h row test = absurd (true≢false (sym h))
  group_told fs t p f G o u z k at (inner n) h row test =
      subst (λ (L : List Step). Told w (Some (numbers_in fs k (t ∷ p))) (far_moves fs G k at n) (instance_answers L row test (inner n)) (instance_leavings (group fs) G k (on L row test) (Some (inner n)))) (sym (level_far t p z))
      (same_told w _ _ _ _ _ _ (sym (inner_answers (t ∷ chain_end p) row test n ∙ node_answers t (chain_end p) (λ (m : Node). test (row (single (inner m)))) n)) refl
      (f t.place G o u z k at n (inr h) (λ xs. put_at t.place xs n) (λ (m : Node). test (row (single (inner m))))))

  mutual
    fields_told : (fs : Fields) (e : Repetition) (p : List Step) → FieldsTold w fs e p
    fields_told no_fields e p j G o u z k at n v row test = absurd (true≢false (sym u))
    fields_told (field m r s fs) e p j G o u z k at n v row test =
        through_told m r s fs e p (λ G o u z k at x v row test. shape_told s p G o u z k at x v row test) (λ j G o u z k at n v row test. fields_told fs e p j G o u z k at n v row test) j G o u z k at n v row test

    pub shape_told : (s : Shape) (p : List Step) → ShapeTold w s p
    shape_told (leaf j) [] G o u z k at x v row test = absurd (omega (arith, z))
    shape_told (leaf j) (t ∷ p) G o u z k at x v row test = absurd (true≢false (sym u))
    shape_told (group fs) [] G o u z k at x v row test = absurd (omega (arith, z))
    shape_told (group fs) (t ∷ p) G o u z k at x v row test = group_told fs t p (λ j G o u z k at n v row test. fields_told fs t.repetition p j G o u z k at n v row test) G o u z k at x v row test
