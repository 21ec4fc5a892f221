-- The automaton of leaves in reading order visits the leaves as the walk of a record does.
use Rattle.std.proofs.Common.{◌≡◌, ◌⊎◌, inl, inr, ℕ, zero, suc, ◌+◌, ◌<◌, ◌≤◌, List, [], ◌∷◌, ◌++◌, length, Bool, true, false, ◌==◌, Option, Some, None, refl, sym, ap, ap₂, ◌∙◌, subst, true≢false, arith, append_assoc, append-nil, length-append}
use Rattle.std.specs.Prelude.{if◌then◌else◌}
use Rattle.std.specs.List.{slice_get}
use Rattle.std.proofs.lemmas.Option.{slice_get_past}
use Rattle.std.proofs.lemmas.Bool.{and_parts, eq-eqb, ne_eqb, eqb-true, le-leb, lt-leb, cond_both, cases_lt}
use Rattle.dr_meaning.specs.Schema.{Repetition, required, optional, repeated, Fields, no_fields, field, Shape, leaf, group, repetition_count, shape_repeated_fields}
use Rattle.dr_meaning.specs.Path.{Step, common, max_repetition, is_leaf_path, is_shape_path, same_repetition}
use Rattle.dr_meaning.specs.Record.{Value, Node, Instances, no_instances, instance, Instance}
use Rattle.dr_meaning.specs.Column.{Triplet, triplet}
use Rattle.dr_meaning.specs.Automaton.{Pick, picks, first_picks, later_picks, indexes, unless_repeated, where_repeated, near_order, far_order, shape_near_order, shape_far_order, first_common, transition, transition_by, counting}
use Rattle.dr_meaning.specs.Walk.{Move, value, leave, unless_repeated as moves_unless_repeated, Depth, inside, begun_later, first_of, first_slot, other_slots, node_of, value_there, triplet_moves, enclosed, later_moves, repeated_moves, by_repetition, where_selected, moves_in, near_moves, far_moves, shape_near_moves, shape_far_moves, top, record_moves}
use Rattle.dr_meaning.specs.OrderLaws.{times}
use Rattle.dr_meaning.specs.AutomatonLaws.{next_level, next_leaf, LeadsOn, AreInReadingOrder, first_leaf, AutomatonVisitsWalk}
use Rattle.dr_meaning.proofs.ProjectionLemmas.{step}
use Rattle.dr_meaning.proofs.Blocks.{same_repetition-true}
use Rattle.dr_meaning.proofs.WalkLemmas.{Without, Only, without_behind, without_beside, only_behind, beside_first, only_beside, behind_later, picks_only}
use Rattle.dr_meaning.proofs.OrderLemmas.{times_append, both_in, both_of, none_in_both, none_of_both, once_of_both}
use Rattle.dr_meaning.proofs.NestingLemmas.{shifted, no_shift}

-- ---- common levels

max_append : (p q : List Step) → max_repetition (p ++ q) ≡ max_repetition p + max_repetition q
max_append [] q = omega arith
max_append (s ∷ p) q = omega (arith, max_append p q)

common_front : (q x y : List Step) → common (q ++ x) (q ++ y) ≡ max_repetition q + common x y
common_front [] x y = omega arith
common_front (s ∷ q) x y = rw (eq-eqb s.place s.place refl) (omega (arith, common_front q x y))

common_apart : (s t : Step) (x y : List Step) → (s.place == t.place) ≡ false → common (s ∷ x) (t ∷ y) ≡ 0
common_apart s t x y h = rw h refl

common_end : (x : List Step) → common [] x ≡ 0
common_end x = refl

-- ---- numbers that count on

counting_length : (a n : ℕ) → length (counting a n) ≡ n
counting_length a zero = refl
counting_length a (suc n) = ap suc (counting_length (suc a) n)

-- a front and the rest of numbers that count on do so
abbrev CountsOn : ℕ → List ℕ → Type 0
CountsOn a xs = xs ≡ counting a (length xs)

same_head : (x y : ℕ) (xs ys : List ℕ) → x ∷ xs ≡ y ∷ ys → (x ≡ y) × (xs ≡ ys)
same_head x y xs ys e = (cc, cc)

counts_front : (a n : ℕ) (xs ys : List ℕ) → xs ++ ys ≡ counting a n → CountsOn a xs
counts_front a n [] ys e = refl
counts_front a zero (x ∷ xs) ys e = absurd (cc)
counts_front a (suc n) (x ∷ xs) ys e = let k = same_head x a (xs ++ ys) (counting (suc a) n) e in ap₂ (λ y z. y ∷ z) k.0 (counts_front (suc a) n xs ys k.1)

counts_back : (a b n : ℕ) (xs ys : List ℕ) → b ≡ a + length xs → xs ++ ys ≡ counting a n → CountsOn b ys
counts_back a b n [] ys e h =
    let q : b ≡ a = omega (arith, e) in
    rw q (h ∙ ap (counting a) (sym (ap length h ∙ counting_length a n)))
counts_back a b zero (x ∷ xs) ys e h = absurd (cc)
counts_back a b (suc n) (x ∷ xs) ys e h = counts_back (suc a) b n xs ys (omega (arith, e)) (same_head x a (xs ++ ys) (counting (suc a) n) h).1

times_counting : (j a n : ℕ) → (a ≤ j → j < a + n → ⊥) → times j (counting a n) ≡ 0
times_counting j a zero h = refl
times_counting j a (suc n) h = by_test (a == j) refl (times_counting j (suc a) n (λ k l. h (omega arith) (omega arith)))
  where
    by_test : (b : Bool) → (a == j) ≡ b → times j (counting (suc a) n) ≡ 0 → (if b then 1 else 0) + times j (counting (suc a) n) ≡ 0
    by_test true t e = let q : a ≡ j = eqb-true a j t in absurd (h (omega (arith, q)) (omega (arith, q)))
    by_test false t e = omega (arith, e)

in_counting : (j a n : ℕ) → a ≤ j → j < a + n → times j (counting a n) ≡ 0 → ⊥
in_counting j a zero h k e = omega arith
in_counting j a (suc n) h k e = by_order (cases_lt a j) (λ l. in_counting j (suc a) n l (omega arith))
  where
    none_behind : times j (counting (suc a) n) ≡ 0
    none_behind = omega (arith, e)

    by_order : (a < j) ⊎ (j ≤ a) → (suc a ≤ j → times j (counting (suc a) n) ≡ 0 → ⊥) → ⊥
    by_order (inl l) f = f (omega (arith, l)) none_behind
    by_order (inr l) f = let q : (a == j) ≡ true = eq-eqb a j (omega arith) in omega (arith, (rw q at e))

module _ (F : List (List Step)) where
  -- ---- transitions

  to_next : (i l : ℕ) (f g : List Step) → slice_get F i ≡ Some f → slice_get F (suc i) ≡ Some g → l ≤ common f g → transition F i l ≡ Some (suc i)
  to_next i l f g e h k = rw (e, h, le-leb l (common f g) k) refl

  to_end : (i : ℕ) (f : List Step) → slice_get F i ≡ Some f → slice_get F (suc i) ≡ None → transition F i 0 ≡ None
  to_end i f e h = rw (e, h) refl

  found_first : (gs : List (List Step)) (i a l : ℕ) (f g : List Step) → ((j : ℕ) (h : List Step) → j < a → slice_get gs j ≡ Some h → common f h < l) → slice_get gs a ≡ Some g → l ≤ common f g → first_common i f l gs ≡ Some (i + a)
  found_first [] i a l f g d e k = absurd (cc)
  found_first (x ∷ gs) i zero l f g d e k = rw (le-leb l (common f x) (subst (λ y. l ≤ common f y) (sym (same x e)) k)) (ap Some (omega arith))
    where
      same : (x : List Step) → Some x ≡ Some g → x ≡ g
      same x e = cc
  found_first (x ∷ gs) i (suc a) l f g d e k =
      let q : suc i + a ≡ i + suc a = omega arith in
      rw (lt-leb l (common f x) (d 0 x (omega arith) refl)) (found_first gs (suc i) a l f g (λ j h b c. d (suc j) h (omega arith) c) e k ∙ ap Some q)

  to_first : (i a l : ℕ) (f g : List Step) → slice_get F i ≡ Some f → ((h : List Step) → slice_get F (suc i) ≡ Some h → common f h < l) → 0 < l → ((j : ℕ) (h : List Step) → j < a → slice_get F j ≡ Some h → common f h < l) → slice_get F a ≡ Some g → l ≤ common f g
      → transition F i l ≡ Some a
  to_first i a l f g e n z d s k = rw e (by_next (slice_get F (suc i)) n)
    where
      first : first_common 0 f l F ≡ Some a
      first = let q : 0 + a ≡ a = omega arith in found_first F 0 a l f g d s k ∙ ap Some q

      by_next : (o : Option (List Step)) → ((h : List Step) → o ≡ Some h → common f h < l) → transition_by F f i o l ≡ Some a
      by_next None n = rw (lt-leb l 0 z) first
      by_next (Some h) n = rw (lt-leb l (common f h) (n h refl)) first

  -- ---- moves that visit leaves

  -- the moves visit the leaves from place a up to b, each begun by the level r, and are followed by levels of at most e
  record Visits (a b r e : ℕ) (ms : List Move) : Type 0 where
    levels : (i : ℕ) (rest : List Move) → a ≤ i → i < b → next_level i (ms ++ rest) ≡ r
    others : (i : ℕ) (rest : List Move) → (a ≤ i → i < b → ⊥) → next_level i (ms ++ rest) ≡ next_level i rest
    first : (rest : List Move) → a < b → next_leaf (ms ++ rest) ≡ Some a
    nothing : (rest : List Move) → b ≤ a → next_leaf (ms ++ rest) ≡ next_leaf rest
    leads : (rest : List Move) (l : ℕ) → l ≤ e → ((i : ℕ) → a ≤ i → i < b → next_level i rest ≡ l) → ((k : ℕ) → suc k ≡ b → a ≤ k → transition F k l ≡ next_leaf rest) → LeadsOn F rest → LeadsOn F (ms ++ rest)

  visits_nothing : (a b r e : ℕ) → b ≤ a → Visits a b r e []
  visits_nothing a b r e h = record {
    levels = λ i rest k l. absurd (omega arith);
    others = λ i rest k. refl;
    first = λ rest k. absurd (omega arith);
    nothing = λ rest k. refl;
    leads = λ rest l k n t d. d;
  }

  visits_less : (a b r e d : ℕ) (ms : List Move) → d ≤ e → Visits a b r e ms → Visits a b r d ms
  visits_less a b r e d ms h v = record {
    levels = v.levels;
    others = v.others;
    first = v.first;
    nothing = v.nothing;
    leads = λ rest l k n t m. v.leads rest l (omega (arith, k, h)) n t m;
  }

  -- neighbours in a range have this common level at least
  abbrev AreNear : ℕ → ℕ → ℕ → Type 0
  AreNear a b e = (k : ℕ) → a ≤ k → suc k < b → (f : List Step) × (g : List Step) × (slice_get F k ≡ Some f) × (slice_get F (suc k) ≡ Some g) × (e ≤ common f g)

  visits_both : (a m b r e : ℕ) (ms ns : List Move) → a ≤ m → m ≤ b → AreNear a b e → Visits a m r e ms → Visits m b r e ns → Visits a b r e (ms ++ ns)
  visits_both a m b r e ms ns h k n v w = record {
    levels = λ i rest p q. assoc (λ x. next_level i x ≡ r) rest (in_either i rest p q (cases_lt i m));
    others = λ i rest p. assoc (λ x. next_level i x ≡ next_level i rest) rest (v.others i (ns ++ rest) (λ c d. p c (omega (arith, d, k))) ∙ w.others i rest (λ c d. p (omega (arith, c, h)) d));
    first = λ rest p. assoc (λ x. next_leaf x ≡ Some a) rest (first_of_both rest p (cases_lt a m));
    nothing = λ rest p. assoc (λ x. next_leaf x ≡ next_leaf rest) rest (v.nothing (ns ++ rest) (omega (arith, p, h, k)) ∙ w.nothing rest (omega (arith, p, h, k)));
    leads = λ rest l p q t d. assoc (LeadsOn F) rest (v.leads (ns ++ rest) l p (λ i c z. w.others i rest (λ y x. omega (arith, y, z)) ∙ q i c (omega (arith, z, k))) (λ j c z. between rest l p j c z t (cases_lt m b)) (w.leads rest l p (λ i c z. q i (omega (arith, c, h)) z) (λ j c z. t j c (omega (arith, z, h))) d));
  }
    where
      assoc : (P : List Move → Type 0) (rest : List Move) → P (ms ++ (ns ++ rest)) → P ((ms ++ ns) ++ rest)
      assoc P rest p = subst P (sym (append_assoc ms ns rest)) p

      in_either : (i : ℕ) (rest : List Move) → a ≤ i → i < b → (i < m) ⊎ (m ≤ i) → next_level i (ms ++ (ns ++ rest)) ≡ r
      in_either i rest p q (inl c) = v.levels i (ns ++ rest) p c
      in_either i rest p q (inr c) = v.others i (ns ++ rest) (λ y x. omega (arith, x, c)) ∙ w.levels i rest c q

      first_of_both : (rest : List Move) → a < b → (a < m) ⊎ (m ≤ a) → next_leaf (ms ++ (ns ++ rest)) ≡ Some a
      first_of_both rest p (inl c) = v.first (ns ++ rest) c
      first_of_both rest p (inr c) = v.nothing (ns ++ rest) c ∙ w.first rest (omega (arith, p, c)) ∙ ap Some (omega (arith, c, h))

      between : (rest : List Move) (l : ℕ) → l ≤ e → (j : ℕ) → suc j ≡ m → a ≤ j → ((x : ℕ) → suc x ≡ b → a ≤ x → transition F x l ≡ next_leaf rest) → (m < b) ⊎ (b ≤ m) → transition F j l ≡ next_leaf (ns ++ rest)
      between rest l p j c z t (inl y) =
          let x = n j z (omega (arith, c, y)) in
          to_next j l x.0 x.1 x.2 x.3 (omega (arith, p, x.4)) ∙ ap Some c ∙ sym (w.first rest y)
      between rest l p j c z t (inr y) = t j (omega (arith, c, y, k)) z ∙ sym (w.nothing rest y)

  visits_enclosed : (a b r e k : ℕ) (ms : List Move) → Visits a b r e ms → Visits a b r e (enclosed k ms)
  visits_enclosed a b r e k ms v = record {
    levels = λ i rest p q. assoc (λ x. next_level i x ≡ r) rest (v.levels i (leave k ∷ rest) p q);
    others = λ i rest p. assoc (λ x. next_level i x ≡ next_level i rest) rest (v.others i (leave k ∷ rest) p);
    first = λ rest p. assoc (λ x. next_leaf x ≡ Some a) rest (v.first (leave k ∷ rest) p);
    nothing = λ rest p. assoc (λ x. next_leaf x ≡ next_leaf rest) rest (v.nothing (leave k ∷ rest) p);
    leads = λ rest l p q t d. assoc (LeadsOn F) rest (v.leads (leave k ∷ rest) l p q t d);
  }
    where
      assoc : (P : List Move → Type 0) (rest : List Move) → P (ms ++ (leave k ∷ rest)) → P ((ms ++ leave k ∷ []) ++ rest)
      assoc P rest p = subst P (sym (append_assoc ms (leave k ∷ []) rest)) p

  visits_one : (a d e : ℕ) (t : Triplet) → Visits a (suc a) t.repetition e (value a t ∷ [])
  visits_one a d e t = record {
    levels = λ i rest p q. let z : (a == i) ≡ true = eq-eqb a i (omega arith) in rw z refl;
    others = λ i rest p. cond_both (a == i) t.repetition (next_level i rest) (λ x. x ≡ next_level i rest) (λ z. absurd (p (omega (arith, eqb-true a i z)) (omega (arith, eqb-true a i z)))) (λ z. refl);
    first = λ rest p. refl;
    nothing = λ rest p. absurd (omega arith);
    leads = λ rest l p q g m. (ap (transition F a) (q a (omega arith) (omega arith)) ∙ g a refl (omega arith), m);
  }

  -- from the last leaf of a range the level e leads to its first
  abbrev LoopsBack : ℕ → ℕ → ℕ → Type 0
  LoopsBack a b e = (k : ℕ) → suc k ≡ b → a ≤ k → transition F k e ≡ Some a

  visits_again : (a b r e : ℕ) (ms ns : List Move) → LoopsBack a b e → Visits a b r e ms → Visits a b e e ns → Visits a b r e (ms ++ ns)
  visits_again a b r e ms ns h v w = record {
    levels = λ i rest p q. assoc (λ x. next_level i x ≡ r) rest (v.levels i (ns ++ rest) p q);
    others = λ i rest p. assoc (λ x. next_level i x ≡ next_level i rest) rest (v.others i (ns ++ rest) p ∙ w.others i rest p);
    first = λ rest p. assoc (λ x. next_leaf x ≡ Some a) rest (v.first (ns ++ rest) p);
    nothing = λ rest p. assoc (λ x. next_leaf x ≡ next_leaf rest) rest (v.nothing (ns ++ rest) p ∙ w.nothing rest p);
    leads = λ rest l p q t d. assoc (LeadsOn F) rest (v.leads (ns ++ rest) e (omega arith) (λ i c z. w.levels i rest c z) (λ k c z. h k c z ∙ sym (w.first rest (omega (arith, c, z)))) (w.leads rest l p q t d));
  }
    where
      assoc : (P : List Move → Type 0) (rest : List Move) → P (ms ++ (ns ++ rest)) → P ((ms ++ ns) ++ rest)
      assoc P rest p = subst P (sym (append_assoc ms ns rest)) p

  visits_later : (a b r e k : ℕ) (f : Option Instance → List Move) → LoopsBack a b e → ((x : Option Instance) → Visits a b e e (f x)) → (xs : Instances) (ms : List Move) → Visits a b r e ms → Visits a b r e (ms ++ later_moves k f xs)
  visits_later a b r e k f h g no_instances ms v = subst (Visits a b r e) (sym (append-nil ms)) v
  visits_later a b r e k f h g (instance x xs) ms v = visits_again a b r e ms (enclosed k (f (Some x)) ++ later_moves k f xs) h v (visits_later a b e e k f h g xs (enclosed k (f (Some x))) (visits_enclosed a b e e k (f (Some x)) (g (Some x))))

  visits_repeated : (a b r e k : ℕ) (f g : Option Instance → List Move) → LoopsBack a b e → ((x : Option Instance) → Visits a b r e (f x)) → ((x : Option Instance) → Visits a b e e (g x)) → (xs : Instances) → Visits a b r e (repeated_moves k f g xs)
  visits_repeated a b r e k f g h v w no_instances = v None
  visits_repeated a b r e k f g h v w (instance x xs) = visits_later a b r e k g h w xs (enclosed k (f (Some x))) (visits_enclosed a b r e k (f (Some x)) (v (Some x)))

  visits_leaf : (a n r d e : ℕ) (v : Option Value) → AreNear a (a + n) e → Visits a (a + n) r e (triplet_moves (counting a n) (triplet r d v))
  visits_leaf a zero r d e v h = visits_nothing a (a + 0) r e (omega arith)
  visits_leaf a (suc n) r d e v h =
      let q : suc a + n ≡ a + suc n = omega arith in
      visits_both a (suc a) (a + suc n) r e (value a (triplet r d v) ∷ []) (triplet_moves (counting (suc a) n) (triplet r d v)) (omega arith) (omega arith) h (visits_one a d e (triplet r d v))
      (subst (λ x. Visits (suc a) x r e (triplet_moves (counting (suc a) n) (triplet r d v))) q (visits_leaf (suc a) n r d e v (λ k c z. h k (omega (arith, c)) (omega (arith, z)))))

  -- ---- leaves of the selection, below the walk's path and elsewhere

  -- a leaf's path p is this pick of the group's fields from place i on; or the leaf is no pick, and has no greater common level with any path there
  abbrev InFields : List Step → ℕ → Fields → List Pick → ℕ → List Step → Type 0
  InFields q i fs G j p = (rest : List Step) × Only j rest G × (p ≡ q ++ shifted i rest) × (is_leaf_path fs rest ≡ true)

  abbrev NotInFields : List Step → ℕ → List Pick → ℕ → List Step → Type 0
  NotInFields q i G j p = Without j G × ((x : List Step) → common (q ++ shifted i x) p ≤ max_repetition q)

  abbrev SplitsFields : List Step → ℕ → Fields → List Pick → Type 0
  SplitsFields q i fs G = (j : ℕ) (p : List Step) → slice_get F j ≡ Some p → InFields q i fs G j p ⊎ NotInFields q i G j p

  abbrev InShape : List Step → Shape → List Pick → ℕ → List Step → Type 0
  InShape q s G j p = (rest : List Step) × Only j rest G × (p ≡ q ++ rest) × (is_shape_path s rest ≡ true)

  -- the same of a shape, where the common level with other leaves is at most m
  abbrev SplitsShape : List Step → ℕ → Shape → List Pick → Type 0
  SplitsShape q m s G = (j : ℕ) (p : List Step) → slice_get F j ≡ Some p → InShape q s G j p ⊎ (Without j G × ((x : List Step) → common (q ++ x) p ≤ m))

  splits_behind : (q : List Step) (i : ℕ) (m : List ℕ) (r : Repetition) (s : Shape) (fs : Fields) (G : List Pick) → SplitsFields q i (field m r s fs) G → SplitsShape (q ++ step i r ∷ []) (max_repetition q) s (first_picks G)
  splits_behind q i m r s fs G h j p e = by_part (h j p e)
    where
      by_place : (k : ℕ) (t : Repetition) (x : List Step) → Only j (step k t ∷ x) G → p ≡ q ++ shifted i (step k t ∷ x) → is_leaf_path (field m r s fs) (step k t ∷ x) ≡ true → InShape (q ++ step i r ∷ []) s (first_picks G) j p ⊎ (Without j (first_picks G) × ((y : List Step) → common ((q ++ step i r ∷ []) ++ y) p ≤ max_repetition q))
      by_place zero t x o c l =
          let w : (same_repetition t r ≡ true) × (is_shape_path s x ≡ true) = and_parts _ _ l in
          let n : i + 0 ≡ i = omega arith in
          inl (x, only_behind j t x G o, c ∙ ap₂ (λ y z. q ++ step y z ∷ x) n (same_repetition-true t r w.0) ∙ sym (append_assoc q (step i r ∷ []) x), w.1)
      by_place (suc k) t x o c l = inr (
        behind_later j k t x G o,
        λ y. let z : common ((q ++ step i r ∷ []) ++ y) p ≡ max_repetition q + 0 = ap (common ((q ++ step i r ∷ []) ++ y)) c ∙ ap (λ w. common w (q ++ shifted i (step (suc k) t ∷ x))) (append_assoc q (step i r ∷ []) y)
            ∙ common_front q (step i r ∷ y) (shifted i (step (suc k) t ∷ x)) ∙ ap (λ w. max_repetition q + w) (common_apart (step i r) (step (i + suc k) t) y x (ne_eqb i (i + suc k) (omega arith))) in omega (arith, z),
      )

      by_part : InFields q i (field m r s fs) G j p ⊎ NotInFields q i G j p → InShape (q ++ step i r ∷ []) s (first_picks G) j p ⊎ (Without j (first_picks G) × ((x : List Step) → common ((q ++ step i r ∷ []) ++ x) p ≤ max_repetition q))
      by_part (inl ([], o, c, l)) = absurd (true≢false (sym l))
      by_part (inl (t ∷ x, o, c, l)) = by_place t.place t.repetition x o c l
      by_part (inr (w, b)) = inr (without_behind j G w, λ x. let n : i + 0 ≡ i = omega arith in subst (λ z. common z p ≤ max_repetition q) (ap (λ y. q ++ step y r ∷ x) n ∙ sym (append_assoc q (step i r ∷ []) x)) (b (step 0 r ∷ x)))

  splits_beside : (q : List Step) (i : ℕ) (m : List ℕ) (r : Repetition) (s : Shape) (fs : Fields) (G : List Pick) → SplitsFields q i (field m r s fs) G → SplitsFields q (suc i) fs (later_picks G)
  splits_beside q i m r s fs G h j p e = by_part (h j p e)
    where
      apart : (t : Repetition) (x y : List Step) → common (q ++ shifted (suc i) y) (q ++ step i t ∷ x) ≤ max_repetition q
      apart t x [] = omega (arith, common_front q [] (step i t ∷ x))
      apart t x (u ∷ y) = omega (arith, common_front q (step (suc i + u.place) u.repetition ∷ y) (step i t ∷ x), common_apart (step (suc i + u.place) u.repetition) (step i t) y x (ne_eqb (suc i + u.place) i (omega arith)))

      by_place : (k : ℕ) (t : Repetition) (x : List Step) → Only j (step k t ∷ x) G → p ≡ q ++ shifted i (step k t ∷ x) → is_leaf_path (field m r s fs) (step k t ∷ x) ≡ true → InFields q (suc i) fs (later_picks G) j p ⊎ NotInFields q (suc i) (later_picks G) j p
      by_place zero t x o c l = let n : i + 0 ≡ i = omega arith in inr (beside_first j t x G o, λ y. subst (λ z. common (q ++ shifted (suc i) y) z ≤ max_repetition q) (sym (c ∙ ap (λ z. q ++ step z t ∷ x) n)) (apart t x y))
      by_place (suc k) t x o c l = let n : i + suc k ≡ suc i + k = omega arith in inl (step k t ∷ x, only_beside j k t x G o, c ∙ ap (λ z. q ++ step z t ∷ x) n, l)

      later : (y : List Step) → ((x : List Step) → common (q ++ shifted i x) p ≤ max_repetition q) → common (q ++ shifted (suc i) y) p ≤ max_repetition q
      later [] b = b []
      later (u ∷ y) b = let n : i + suc u.place ≡ suc i + u.place = omega arith in subst (λ z. common (q ++ step z u.repetition ∷ y) p ≤ max_repetition q) n (b (step (suc u.place) u.repetition ∷ y))

      by_part : InFields q i (field m r s fs) G j p ⊎ NotInFields q i G j p → InFields q (suc i) fs (later_picks G) j p ⊎ NotInFields q (suc i) (later_picks G) j p
      by_part (inl ([], o, c, l)) = absurd (true≢false (sym l))
      by_part (inl (t ∷ x, o, c, l)) = by_place t.place t.repetition x o c l
      by_part (inr (w, b)) = inr (without_beside j G w, λ y. later y b)

  -- ---- ranges of places

  get_some : (xs : List (List Step)) (k : ℕ) → k < length xs → (f : List Step) × (slice_get xs k ≡ Some f)
  get_some [] k h = absurd (omega arith)
  get_some (x ∷ xs) zero h = (x, refl)
  get_some (x ∷ xs) (suc k) h = get_some xs k (omega arith)

  -- these places count on from a, within the selection
  abbrev IsRange : ℕ → List ℕ → Type 0
  IsRange a xs = CountsOn a xs × (a + length xs ≤ length F)

  range_front : (a : ℕ) (xs ys : List ℕ) → IsRange a (xs ++ ys) → IsRange a xs
  range_front a xs ys h = (counts_front a (length (xs ++ ys)) xs ys h.0, omega (arith, h.1, length-append xs ys))

  range_back : (a : ℕ) (xs ys : List ℕ) → IsRange a (xs ++ ys) → IsRange (a + length xs) ys
  range_back a xs ys h = (counts_back a (a + length xs) (length (xs ++ ys)) xs ys refl h.0, omega (arith, h.1, length-append xs ys))

  -- a place of a range is among its places; another isn't
  in_range : (a j : ℕ) (xs : List ℕ) → CountsOn a xs → a ≤ j → j < a + length xs → times j xs ≡ 0 → ⊥
  in_range a j xs c h k e = in_counting j a (length xs) h k (subst (λ y. times j y ≡ 0) c e)

  out_of_range : (a j : ℕ) (xs : List ℕ) → CountsOn a xs → (a ≤ j → j < a + length xs → ⊥) → times j xs ≡ 0
  out_of_range a j xs c h = ap (times j) c ∙ times_counting j a (length xs) h

  -- the places of a range that are those of picks are near one another
  near_from : (q : List Step) (a : ℕ) (xs : List ℕ) → IsRange a xs → ((j : ℕ) (p : List Step) → a ≤ j → j < a + length xs → slice_get F j ≡ Some p → (x : List Step) × (p ≡ q ++ x)) → AreNear a (a + length xs) (max_repetition q)
  near_from q a xs h g k c z =
      let f : (f : List Step) × (slice_get F k ≡ Some f) = get_some F k (omega (arith, z, h.1)) in
      let n : (f : List Step) × (slice_get F (suc k) ≡ Some f) = get_some F (suc k) (omega (arith, z, h.1)) in
      let x : (x : List Step) × (f.0 ≡ q ++ x) = g k f.0 c (omega (arith, z)) f.1 in
      let y : (x : List Step) × (n.0 ≡ q ++ x) = g (suc k) n.0 (omega (arith, c)) z n.1 in
      let e : common f.0 n.0 ≡ max_repetition q + common x.0 y.0 = ap₂ common x.1 y.1 ∙ common_front q x.0 y.0 in
      (f.0, n.0, f.1, n.1, omega (arith, e))

  -- in a range of some of a group's, or a shape's, places
  in_fields : (q : List Step) (i : ℕ) (fs : Fields) (G : List Pick) (a : ℕ) (xs : List ℕ) → SplitsFields q i fs G → IsRange a xs → ((j : ℕ) → times j xs ≤ both_in j fs G) → AreNear a (a + length xs) (max_repetition q)
  in_fields q i fs G a xs h r t = near_from q a xs r (λ j p c z e. by_part j p c z (h j p e))
    where
      by_part : (j : ℕ) (p : List Step) → a ≤ j → j < a + length xs → InFields q i fs G j p ⊎ NotInFields q i G j p → (x : List Step) × (p ≡ q ++ x)
      by_part j p c z (inl k) = (shifted i k.0, k.2)
      by_part j p c z (inr k) = absurd (in_range a j xs r.0 c z (omega (arith, t j, none_in_both j fs G k.0)))

  in_shape : (q : List Step) (m : ℕ) (s : Shape) (G : List Pick) (a : ℕ) (xs : List ℕ) → SplitsShape q m s G → IsRange a xs → ((j : ℕ) → times j xs ≤ both_of j s G) → AreNear a (a + length xs) (max_repetition q)
  in_shape q m s G a xs h r t = near_from q a xs r (λ j p c z e. by_part j p c z (h j p e))
    where
      by_part : (j : ℕ) (p : List Step) → a ≤ j → j < a + length xs → InShape q s G j p ⊎ (Without j G × ((x : List Step) → common (q ++ x) p ≤ m)) → (x : List Step) × (p ≡ q ++ x)
      by_part j p c z (inl k) = (k.0, k.2)
      by_part j p c z (inr k) = absurd (in_range a j xs r.0 c z (omega (arith, t j, none_of_both j s G k.0)))

  -- all the places of a repeated field's leaves: from the last its level leads to the first
  loops_back : (q : List Step) (m : ℕ) (s : Shape) (G : List Pick) (a : ℕ) (xs : List ℕ) → SplitsShape q m s G → IsRange a xs → ((j : ℕ) → times j xs ≡ both_of j s G) → m < max_repetition q → LoopsBack a (a + length xs) (max_repetition q)
  loops_back q m s G a xs h r t l k c z =
      let f : (f : List Step) × (slice_get F k ≡ Some f) = get_some F k (omega (arith, c, r.1)) in
      let g : (f : List Step) × (slice_get F a ≡ Some f) = get_some F a (omega (arith, z, c, r.1)) in
      let x : (x : List Step) × (f.0 ≡ q ++ x) = inside_range k f.0 z (omega (arith, c)) (h k f.0 f.1) in
      let y : (x : List Step) × (g.0 ≡ q ++ x) = inside_range a g.0 (omega arith) (omega (arith, z, c)) (h a g.0 g.1) in
      let e : common f.0 g.0 ≡ max_repetition q + common x.0 y.0 = ap₂ common x.1 y.1 ∙ common_front q x.0 y.0 in
      to_first k a (max_repetition q) f.0 g.0 f.1 (λ w n. outside_range f.0 x.0 x.1 (suc k) w (λ d b. omega (arith, b, c)) (h (suc k) w n)) (omega (arith, l)) (λ j w d n. outside_range f.0 x.0 x.1 j w (λ b v. omega (arith, b, d)) (h j w n)) g.1 (omega (arith, e))
    where
      inside_range : (j : ℕ) (p : List Step) → a ≤ j → j < a + length xs → InShape q s G j p ⊎ (Without j G × ((x : List Step) → common (q ++ x) p ≤ m)) → (x : List Step) × (p ≡ q ++ x)
      inside_range j p c z (inl k) = (k.0, k.2)
      inside_range j p c z (inr k) = absurd (in_range a j xs r.0 c z (omega (arith, t j, none_of_both j s G k.0)))

      outside_range : (f x : List Step) → f ≡ q ++ x → (j : ℕ) (p : List Step) → (a ≤ j → j < a + length xs → ⊥) → InShape q s G j p ⊎ (Without j G × ((x : List Step) → common (q ++ x) p ≤ m)) → common f p < max_repetition q
      outside_range f x e j p n (inl k) = absurd (omega (arith, t j, once_of_both j s k.0 G k.1 k.3, out_of_range a j xs r.0 n))
      outside_range f x e j p n (inr k) = let z : common f p ≤ m = subst (λ y. common y p ≤ m) (sym e) (k.1 x) in omega (arith, z, l)

  -- ---- the walk

  splits_group : (q : List Step) (m : ℕ) (fs : Fields) (G : List Pick) → m ≤ max_repetition q → SplitsShape q m (group fs) G → SplitsFields q 0 fs G
  splits_group q m fs G l h j p e = by_part (h j p e)
    where
      by_part : InShape q (group fs) G j p ⊎ (Without j G × ((x : List Step) → common (q ++ x) p ≤ m)) → InFields q 0 fs G j p ⊎ NotInFields q 0 G j p
      by_part (inl k) = inl (k.0, k.1, k.2 ∙ ap (λ x. q ++ x) (sym (no_shift k.0)), k.3)
      by_part (inr k) = inr (k.0, λ x. let z : common (q ++ shifted 0 x) p ≤ m = k.1 (shifted 0 x) in omega (arith, z, l))

  mutual
    no_near : (fs : Fields) → near_order fs [] ≡ []
    no_near no_fields = refl
    no_near (field n r s fs) = ap₂ (λ x y. unless_repeated r x ++ y) (no_shape_near s) (no_near fs) ∙ none r
      where
        none : (r : Repetition) → unless_repeated r [] ++ [] ≡ []
        none required = refl
        none optional = refl
        none repeated = refl

    no_shape_near : (s : Shape) → shape_near_order s [] ≡ []
    no_shape_near (leaf k) = refl
    no_shape_near (group fs) = no_near fs

  none_repeated : (r : Repetition) → where_repeated r [] ≡ []
  none_repeated required = refl
  none_repeated optional = refl
  none_repeated repeated = refl

  mutual
    no_far : (fs : Fields) → far_order fs [] ≡ []
    no_far no_fields = refl
    no_far (field n r s fs) = rw (no_shape_near s, none_repeated r, no_shape_far s, no_far fs) refl

    no_shape_far : (s : Shape) → shape_far_order s [] ≡ []
    no_shape_far (leaf k) = refl
    no_shape_far (group fs) = no_far fs

  visits_where : (B : List Pick) (a b r e : ℕ) (ms : List Move) → (B ≡ [] → b ≤ a) → Visits a b r e ms → Visits a b r e (where_selected B ms)
  visits_where [] a b r e ms h v = visits_nothing a b r e (h refl)
  visits_where (g ∷ B) a b r e ms h v = v

  max_inside : (q : List Step) (i : ℕ) (r : Repetition) (n : ℕ) → max_repetition q ≡ n → max_repetition (q ++ step i r ∷ []) ≡ n + repetition_count r
  max_inside q i r n e = omega (arith, max_append q (step i r ∷ []), e)

  weaker_splits : (q : List Step) (m n : ℕ) (s : Shape) (G : List Pick) → m ≤ n → SplitsShape q m s G → SplitsShape q n s G
  weaker_splits q m n s G l h j p e = by_part (h j p e)
    where
      by_part : InShape q s G j p ⊎ (Without j G × ((x : List Step) → common (q ++ x) p ≤ m)) → InShape q s G j p ⊎ (Without j G × ((x : List Step) → common (q ++ x) p ≤ n))
      by_part (inl k) = inl k
      by_part (inr k) = inr (k.0, λ x. let z : common (q ++ x) p ≤ m = k.1 x in omega (arith, z, l))

  mutual
    near : (fs : Fields) (G : List Pick) (at : Depth) (n : Node) (q : List Step) (i a : ℕ) → SplitsFields q i fs G → max_repetition q ≡ at.level → IsRange a (near_order fs G) → Visits a (a + length (near_order fs G)) at.repetition at.level (near_moves fs G at n)
    near no_fields G at n q i a h e c = visits_nothing a (a + 0) at.repetition at.level (omega arith)
    near (field m r s fs) G at n q i a h e c =
        let xs : List ℕ = unless_repeated r (shape_near_order s (first_picks G)) in
        let ys : List ℕ = near_order fs (later_picks G) in
        let d : (a + length xs) + length ys ≡ a + length (xs ++ ys) = omega (arith, length-append xs ys) in
        let x : Option Instance = first_of (first_slot n) in
        visits_both a (a + length xs) (a + length (xs ++ ys)) at.repetition at.level (moves_unless_repeated r (shape_near_moves s (first_picks G) (inside r at x) x)) (near_moves fs (later_picks G) at (other_slots n)) (omega arith) (omega (arith, d))
        (subst (AreNear a (a + length (xs ++ ys))) e (in_fields q i (field m r s fs) G a (xs ++ ys) h c (λ j. omega arith)))
        (by_kind r x (shape_near s (first_picks G) (inside r at x) x (q ++ step i r ∷ []) (max_repetition q) a (omega (arith, max_append q (step i r ∷ []))) (splits_behind q i m r s fs G h) (max_inside q i r at.level e)) (range_front a xs ys c))
        (subst (λ z. Visits (a + length xs) z at.repetition at.level (near_moves fs (later_picks G) at (other_slots n))) d (near fs (later_picks G) at (other_slots n) q (suc i) (a + length xs) (splits_beside q i m r s fs G h) e (range_back a xs ys c)))
      where
        by_kind : (r : Repetition) (x : Option Instance) → (IsRange a (shape_near_order s (first_picks G)) → Visits a (a + length (shape_near_order s (first_picks G))) (inside r at x).repetition (inside r at x).level (shape_near_moves s (first_picks G) (inside r at x) x))
            → IsRange a (unless_repeated r (shape_near_order s (first_picks G))) → Visits a (a + length (unless_repeated r (shape_near_order s (first_picks G)))) at.repetition at.level (moves_unless_repeated r (shape_near_moves s (first_picks G) (inside r at x) x))
        by_kind required x f c = visits_less a _ at.repetition (at.level + 0) at.level _ (omega arith) (f c)
        by_kind optional x f c = visits_less a _ at.repetition (at.level + 0) at.level _ (omega arith) (f c)
        by_kind repeated x f c = visits_nothing a (a + 0) at.repetition at.level (omega arith)

    shape_near : (s : Shape) (G : List Pick) (at : Depth) (x : Option Instance) (q : List Step) (m a : ℕ) → m ≤ max_repetition q → SplitsShape q m s G → max_repetition q ≡ at.level → IsRange a (shape_near_order s G) → Visits a (a + length (shape_near_order s G)) at.repetition at.level (shape_near_moves s G at x)
    shape_near (leaf k) G at x q m a l h e c =
        subst (λ is. Visits a (a + length (indexes G)) at.repetition at.level (triplet_moves is (triplet at.repetition at.definition (value_there x)))) (sym c.0)
        (visits_leaf a (length (indexes G)) at.repetition at.definition at.level (value_there x) (subst (AreNear a (a + length (indexes G))) e (in_shape q m (leaf k) G a (indexes G) h c (λ j. omega arith))))
    shape_near (group fs) G at x q m a l h e c = near fs G at (node_of x) q 0 a (splits_group q m fs G l h) e c

  -- the places of a field's leaves beyond the level
  abbrev far_places : Repetition → Shape → List Pick → List ℕ
  far_places r s G = where_repeated r (shape_near_order s G) ++ shape_far_order s G

  mutual
    far : (fs : Fields) (G : List Pick) (k : ℕ) (at : Depth) (n : Node) (q : List Step) (i a : ℕ) → SplitsFields q i fs G → max_repetition q ≡ at.level → IsRange a (far_order fs G) → Visits a (a + length (far_order fs G)) at.repetition at.level (far_moves fs G k at n)
    far no_fields G k at n q i a h e c = visits_nothing a (a + 0) at.repetition at.level (omega arith)
    far (field m r s fs) G k at n q i a h e c =
        let xs : List ℕ = far_places r s (first_picks G) in
        let ys : List ℕ = far_order fs (later_picks G) in
        let d : (a + length xs) + length ys ≡ a + length (far_order (field m r s fs) G) = omega (arith, length-append xs ys) in
        let moves : List Move = where_selected (first_picks G) (by_repetition r (repeated_moves k (λ x. moves_in (shape_near_moves s (first_picks G)) (shape_far_moves s (first_picks G) (suc k)) (inside r at x) x) (λ x. moves_in (shape_near_moves s (first_picks G)) (shape_far_moves s (first_picks G) (suc k)) (inside r (begun_later at) x) x)) (λ x. shape_far_moves s (first_picks G) k (inside r at x) x) (first_slot n)) in
        visits_both a (a + length xs) (a + length (far_order (field m r s fs) G)) at.repetition at.level moves (far_moves fs (later_picks G) (k + (repetition_count r + shape_repeated_fields s)) at (other_slots n)) (omega arith) (omega (arith, d))
        (subst (AreNear a (a + length (far_order (field m r s fs) G))) e (in_fields q i (field m r s fs) G a (far_order (field m r s fs) G) h c (λ j. omega arith)))
        (visits_where (first_picks G) a (a + length xs) at.repetition at.level _ (λ b. rw (b, no_shape_near s, none_repeated r, no_shape_far s) (omega arith))
        (by_kind r (first_slot n) (splits_behind q i m r s fs G h) (max_inside q i r at.level e) (range_front a xs ys c)
        (λ j b x y z u v. shape_near s (first_picks G) b x (q ++ step i r ∷ []) y z u v) (λ j b x y z u v. shape_far s (first_picks G) j b x (q ++ step i r ∷ []) y z u v)))
        (subst (λ z. Visits (a + length xs) z at.repetition at.level (far_moves fs (later_picks G) (k + (repetition_count r + shape_repeated_fields s)) at (other_slots n))) d (far fs (later_picks G) (k + (repetition_count r + shape_repeated_fields s)) at (other_slots n) q (suc i) (a + length xs) (splits_beside q i m r s fs G h) e (range_back a xs ys c)))
      where
        by_kind : (r : Repetition) (xs : Instances) → SplitsShape (q ++ step i r ∷ []) (max_repetition q) s (first_picks G) → max_repetition (q ++ step i r ∷ []) ≡ at.level + repetition_count r → IsRange a (far_places r s (first_picks G))
            → ((j : ℕ) (d : Depth) (x : Option Instance) (m a : ℕ) → m ≤ max_repetition (q ++ step i r ∷ []) → SplitsShape (q ++ step i r ∷ []) m s (first_picks G) → max_repetition (q ++ step i r ∷ []) ≡ d.level → IsRange a (shape_near_order s (first_picks G)) → Visits a (a + length (shape_near_order s (first_picks G))) d.repetition d.level (shape_near_moves s (first_picks G) d x))
            → ((j : ℕ) (d : Depth) (x : Option Instance) (m a : ℕ) → m ≤ max_repetition (q ++ step i r ∷ []) → SplitsShape (q ++ step i r ∷ []) m s (first_picks G) → max_repetition (q ++ step i r ∷ []) ≡ d.level → IsRange a (shape_far_order s (first_picks G)) → Visits a (a + length (shape_far_order s (first_picks G))) d.repetition d.level (shape_far_moves s (first_picks G) j d x))
            → Visits a (a + length (far_places r s (first_picks G))) at.repetition at.level (by_repetition r (repeated_moves k (λ x. moves_in (shape_near_moves s (first_picks G)) (shape_far_moves s (first_picks G) (suc k)) (inside r at x) x) (λ x. moves_in (shape_near_moves s (first_picks G)) (shape_far_moves s (first_picks G) (suc k)) (inside r (begun_later at) x) x)) (λ x. shape_far_moves s (first_picks G) k (inside r at x) x) xs)
        by_kind required xs h e c f g = visits_less a _ at.repetition (at.level + 0) at.level _ (omega arith) (g k (inside required at (first_of xs)) (first_of xs) (max_repetition q) a (omega (arith, max_append q (step i required ∷ []))) h e c)
        by_kind optional xs h e c f g = visits_less a _ at.repetition (at.level + 0) at.level _ (omega arith) (g k (inside optional at (first_of xs)) (first_of xs) (max_repetition q) a (omega (arith, max_append q (step i optional ∷ []))) h e c)
        by_kind repeated xs h e c f g =
            let zs : List ℕ = shape_near_order s (first_picks G) in
            let bs : List ℕ = shape_far_order s (first_picks G) in
            let b : ℕ = a + length (zs ++ bs) in
            let p : List Step = q ++ step i repeated ∷ [] in
            let l : max_repetition q < max_repetition p = omega (arith, max_append q (step i repeated ∷ [])) in
            let u : max_repetition q ≤ max_repetition p = omega (arith, l) in
            let o : LoopsBack a b (at.level + 1) = subst (LoopsBack a b) e (loops_back p (max_repetition q) s (first_picks G) a (zs ++ bs) h c (λ j. times_append j zs bs) l) in
            let n : AreNear a b (at.level + 1) = subst (AreNear a b) e (in_shape p (max_repetition q) s (first_picks G) a (zs ++ bs) h c (λ j. omega (arith, times_append j zs bs))) in
            let d : (a + length zs) + length bs ≡ b = omega (arith, length-append zs bs) in
            let t : suc at.level ≡ at.level + 1 = omega arith in
            visits_less a b at.repetition (at.level + 1) at.level _ (omega arith)
            (visits_repeated a b at.repetition (at.level + 1) k _ _ o
            (λ x. visits_both a (a + length zs) b at.repetition (at.level + 1) (shape_near_moves s (first_picks G) (inside repeated at x) x) (shape_far_moves s (first_picks G) (suc k) (inside repeated at x) x) (omega arith) (omega (arith, d)) n
            (f k (inside repeated at x) x (max_repetition q) a u h e (range_front a zs bs c))
            (subst (λ z. Visits (a + length zs) z at.repetition (at.level + 1) (shape_far_moves s (first_picks G) (suc k) (inside repeated at x) x)) d (g (suc k) (inside repeated at x) x (max_repetition q) (a + length zs) u h e (range_back a zs bs c))))
            (λ x. subst (λ y. Visits a b y (at.level + 1) (moves_in (shape_near_moves s (first_picks G)) (shape_far_moves s (first_picks G) (suc k)) (inside repeated (begun_later at) x) x)) t
            (visits_both a (a + length zs) b (suc at.level) (at.level + 1) (shape_near_moves s (first_picks G) (inside repeated (begun_later at) x) x) (shape_far_moves s (first_picks G) (suc k) (inside repeated (begun_later at) x) x) (omega arith) (omega (arith, d)) n
            (f k (inside repeated (begun_later at) x) x (max_repetition q) a u h e (range_front a zs bs c))
            (subst (λ z. Visits (a + length zs) z (suc at.level) (at.level + 1) (shape_far_moves s (first_picks G) (suc k) (inside repeated (begun_later at) x) x)) d (g (suc k) (inside repeated (begun_later at) x) x (max_repetition q) (a + length zs) u h e (range_back a zs bs c)))))
            xs)

    shape_far : (s : Shape) (G : List Pick) (k : ℕ) (at : Depth) (x : Option Instance) (q : List Step) (m a : ℕ) → m ≤ max_repetition q → SplitsShape q m s G → max_repetition q ≡ at.level → IsRange a (shape_far_order s G) → Visits a (a + length (shape_far_order s G)) at.repetition at.level (shape_far_moves s G k at x)
    shape_far (leaf j) G k at x q m a l h e c = visits_nothing a (a + 0) at.repetition at.level (omega arith)
    shape_far (group fs) G k at x q m a l h e c = far fs G k at (node_of x) q 0 a (splits_group q m fs G l h) e c

no_place : (n : ℕ) → 0 + n ≡ n
no_place n = omega arith

splits_all : (fs : Fields) (F : List (List Step)) → ((i : ℕ) (p : List Step) → slice_get F i ≡ Some p → is_leaf_path fs p ≡ true) → SplitsFields F [] 0 fs (picks F)
splits_all fs F h j p e = inl (p, subst (λ x. Only x p (picks F)) (no_place j) (picks_only j 0 p F e), sym (no_shift p), h j p e)

record_visits : (fs : Fields) (F : List (List Step)) (n : Node) → AreInReadingOrder fs F → Visits F 0 (length F) 0 0 (record_moves fs F n)
record_visits fs F n h =
    let xs : List ℕ = near_order fs (picks F) in
    let ys : List ℕ = far_order fs (picks F) in
    let l : length (xs ++ ys) ≡ length F = ap length h.0 ∙ counting_length 0 (length F) in
    let c : IsRange F 0 (xs ++ ys) = (h.0 ∙ ap (counting 0) (sym l), omega (arith, l)) in
    let s : SplitsFields F [] 0 fs (picks F) = splits_all fs F h.1 in
    let d : (0 + length xs) + length ys ≡ length F = omega (arith, length-append xs ys, l) in
    let e : 0 + length (xs ++ ys) ≡ length F = omega (arith, l) in
    let n1 : AreNear F 0 (length F) 0 = subst (λ z. AreNear F 0 z 0) e (in_fields F [] 0 fs (picks F) 0 (xs ++ ys) s c (λ j. omega (arith, times_append j xs ys))) in
    visits_enclosed F 0 (length F) 0 0 0 (near_moves fs (picks F) top n ++ far_moves fs (picks F) 1 top n)
    (visits_both F 0 (0 + length xs) (length F) 0 0 (near_moves fs (picks F) top n) (far_moves fs (picks F) 1 top n) (omega arith) (omega (arith, d)) n1
    (near F fs (picks F) top n [] 0 0 s refl (range_front F 0 xs ys c))
    (subst (λ z. Visits F (0 + length xs) z 0 0 (far_moves fs (picks F) 1 top n)) d (far F fs (picks F) 1 top n [] 0 (0 + length xs) s refl (range_back F 0 xs ys c))))

last_ends : (F : List (List Step)) (k : ℕ) → suc k ≡ length F → transition F k 0 ≡ None
last_ends F k c =
    let f : (f : List Step) × (slice_get F k ≡ Some f) = get_some F F k (omega (arith, c)) in
    to_end F k f.0 f.1 (slice_get_past F (suc k) (omega (arith, c)))

starts : (F : List (List Step)) (ms : List Move) → Visits F 0 (length F) 0 0 ms → (m : ℕ) → length F ≡ m → next_leaf ms ≡ first_leaf m
starts F ms v zero e = ap next_leaf (sym (append-nil ms)) ∙ v.nothing [] (omega (arith, e))
starts F ms v (suc m) e = ap next_leaf (sym (append-nil ms)) ∙ v.first [] (omega (arith, e))

pub automaton_visits_walk : AutomatonVisitsWalk
automaton_visits_walk fs F n h =
    let v : Visits F 0 (length F) 0 0 (record_moves fs F n) = record_visits fs F n h in
    (starts F (record_moves fs F n) v (length F) refl, subst (LeadsOn F) (append-nil (record_moves fs F n)) (v.leads [] 0 (omega arith) (λ i c z. refl) (λ k c z. last_ends F k c) tt))
