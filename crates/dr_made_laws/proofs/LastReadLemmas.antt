-- The last of some related leaves is read together with each of them, and has their longest chain.
use Rattle.std.proofs.Common.{◌≡◌, ◌⊎◌, inl, inr, ℕ, zero, suc, ◌<◌, ◌≤◌, List, [], ◌∷◌, length, get_or, Bool, true, false, ◌&&◌, ◌||◌, Option, None}
use Rattle.std.proofs.Common.{Some, refl, sym, ap, ap₂, subst, ◌∙◌, true≢false, arith}
use Rattle.std.specs.Prelude.{◌==◌, nat_lt, if◌then◌else◌}
use Rattle.std.specs.List.{slice_get, list_all}
use Rattle.std.proofs.lemmas.Bool.{and_parts, eq-eqb, ne_eqb}
use Rattle.std.proofs.lemmas.Bool.Decides.{nat_tests}
use Rattle.dr_meaning.specs.Schema.{Fields}
use Rattle.dr_meaning.specs.Path.{Step, begins_with, chain_end, is_leaf_path, is_shorter, longer}
use Rattle.dr_meaning.specs.Expression.{longest_chain}
use Rattle.dr_meaning.specs.BoundExpression.{are_related}
use Rattle.dr_meaning.specs.Automaton.{counting}
use Rattle.dr_meaning.specs.AutomatonLaws.{AreInReadingOrder}
use Rattle.dr_moves.specs.Selection.{all_differ}
use Rattle.dr_moves.specs.Firing.{AllTogether}
use Rattle.dr_moves.specs.Together.{Together}
use Rattle.dr_kept_laws.specs.LaterLeaf.{comes_first}
use Rattle.dr_kept_laws.proofs.LaterLeafLemmas.{later_reads_both}
use Rattle.dr_kept_laws.proofs.Selections.{leaf_selected}
use Rattle.dr_partials.specs.PartialLaws.{all_related}
use Rattle.dr_partials.proofs.RowLemmas.{Each}
use Rattle.dr_partials.proofs.RelatedLemmas.{chains_begin}
use Rattle.dr_made_laws.specs.LastRead.{paths_at, greater_of, greatest, LastReadsAll, MeantAtLast, LastStands, LongestOfBoth}
use Rattle.dr_made_laws.proofs.LongestLevel.{Within, level_within, longest_is}

-- ---- the greatest is one of the numbers, and none is above it

abbrev Among : ℕ → List ℕ → Type 0
Among i [] = ⊥
Among i (k ∷ K) = (k ≡ i) ⊎ Among i K

less_is : (a b : ℕ) → nat_lt a b ≡ true → a < b
less_is a b h = grind (arith, nat_tests)

not_less : (a b : ℕ) → nat_lt a b ≡ false → b ≤ a
not_less a b h = grind (arith, nat_tests)

greatest_among : (K : List ℕ) (i : ℕ) → greatest K ≡ Some i → Among i K
greatest_among [] i e = absurd (cc)
greatest_among (k ∷ K) i e = by_rest (greatest K) refl e (greatest_among K)
  where
    same : (a : ℕ) → Some a ≡ Some i → a ≡ i
    same a e = cc

    by_rest : (o : Option ℕ) → greatest K ≡ o → Some (greater_of k o) ≡ Some i → ((j : ℕ) → greatest K ≡ Some j → Among j K) → Among i (k ∷ K)
    by_rest None z e r = inl (same k e)
    by_rest (Some m) z e r = by_test (nat_lt k m) e
      where
        at : (j : ℕ) → j ≡ i → greatest K ≡ Some j → Among i K
        at j q y = r i (y ∙ ap Some q)

        by_test : (b : Bool) → Some (if b then m else k) ≡ Some i → Among i (k ∷ K)
        by_test true e = inr (at m (same m e) z)
        by_test false e = inl (same k e)

none_above : (K : List ℕ) (i : ℕ) → greatest K ≡ Some i → Each (λ (k : ℕ). k ≤ i) K
none_above [] i e = tt
none_above (k ∷ K) i e = by_rest (greatest K) refl e (none_above K)
  where
    same : (a : ℕ) → Some a ≡ Some i → a ≡ i
    same a e = cc

    weaker : (j : ℕ) (L : List ℕ) → j ≤ i → Each (λ (k : ℕ). k ≤ j) L → Each (λ (k : ℕ). k ≤ i) L
    weaker j [] h a = tt
    weaker j (l ∷ L) h a = (omega (arith, a.0, h), weaker j L h a.1)

    nothing : (L : List ℕ) → greatest L ≡ None → Each (λ (k : ℕ). k ≤ i) L
    nothing [] z = tt
    nothing (l ∷ L) z = absurd (cc)

    by_rest : (o : Option ℕ) → greatest K ≡ o → Some (greater_of k o) ≡ Some i → ((j : ℕ) → greatest K ≡ Some j → Each (λ (k : ℕ). k ≤ j) K)
        → Each (λ (k : ℕ). k ≤ i) (k ∷ K)
    by_rest None z e r = let q : k ≡ i = same k e in (omega (arith, q), nothing K z)
    by_rest (Some m) z e r = by_test (nat_lt k m) refl e
      where
        by_test : (b : Bool) → nat_lt k m ≡ b → Some (if b then m else k) ≡ Some i → Each (λ (k : ℕ). k ≤ i) (k ∷ K)
        by_test true y e =
            let q : m ≡ i = same m e in
            let l : k < m = less_is k m y in
            (omega (arith, q, l), weaker m K (omega (arith, q)) (r m z))
        by_test false y e =
            let q : k ≡ i = same k e in
            let l : m ≤ k = not_less k m y in
            (omega (arith, q), weaker m K (omega (arith, q, l)) (r m z))

-- ---- their paths

path_there : (F : List (List Step)) (k : ℕ) → k < length F → slice_get F k ≡ Some (get_or F k [])
path_there [] k h = absurd (omega (arith, h))
path_there (p ∷ F) zero h = refl
path_there (p ∷ F) (suc k) h = path_there F k (omega (arith, h))

all_among : (P : ℕ → Type 0) (K : List ℕ) (i : ℕ) → Each P K → Among i K → (Q : Type 0) → ((k : ℕ) → k ≡ i → P k → Q) → Q
all_among P [] i a h Q f = absurd h
all_among P (k ∷ K) i a (inl e) Q f = f k e a.0
all_among P (k ∷ K) i a (inr h) Q f = all_among P K i a.1 h Q f

tested : (f : ℕ → Bool) (K : List ℕ) → list_all f K ≡ true → Each (λ (k : ℕ). f k ≡ true) K
tested f [] h = tt
tested f (k ∷ K) h = let a : (f k ≡ true) × (list_all f K ≡ true) = and_parts (f k) (list_all f K) h in (a.0, tested f K a.1)

same_place : (n : ℕ) → (n == n) ≡ true
same_place n = eq-eqb n n refl

begins_itself : (p : List Step) → begins_with p p ≡ true
begins_itself [] = refl
begins_itself (s ∷ p) = ap₂ (λ (a b : Bool). a && b) (same_place s.place) (begins_itself p)

turned : (p q : List Step) → are_related p q ≡ true → are_related q p ≡ true
turned p q h = by_tests (begins_with (chain_end p) (chain_end q)) (begins_with (chain_end q) (chain_end p)) h
  where
    by_tests : (a b : Bool) → (a || b) ≡ true → (b || a) ≡ true
    by_tests true true h = refl
    by_tests true false h = refl
    by_tests false b h = ap (λ (c : Bool). c || false) h

itself : (p : List Step) → are_related p p ≡ true
itself p = ap (λ (a : Bool). a || a) (begins_itself (chain_end p))

module _ (F : List (List Step)) where
  abbrev at : ℕ → List Step
  at k = get_or F k []

  -- each of related paths is related to one of them
  first_related : (p : List Step) (K : List ℕ) (i : ℕ) → list_all (are_related p) (paths_at F K) ≡ true → Among i K → are_related p (at i) ≡ true
  first_related p [] i h a = absurd a
  first_related p (k ∷ K) i h a =
      let x : (are_related p (at k) ≡ true) × (list_all (are_related p) (paths_at F K) ≡ true) =
      and_parts (are_related p (at k)) (list_all (are_related p) (paths_at F K)) h in
      by_side a x.0 (first_related p K i x.1)
    where
      by_side : (k ≡ i) ⊎ Among i K → are_related p (at k) ≡ true → (Among i K → are_related p (at i) ≡ true) → are_related p (at i) ≡ true
      by_side (inl e) y r = ap (λ (j : ℕ). are_related p (at j)) (sym e) ∙ y
      by_side (inr h) y r = r h

  each_back : (p : List Step) (K : List ℕ) → list_all (are_related p) (paths_at F K) ≡ true → Each (λ (k : ℕ). are_related (at k) p ≡ true) K
  each_back p [] h = tt
  each_back p (k ∷ K) h =
      let x : (are_related p (at k) ≡ true) × (list_all (are_related p) (paths_at F K) ≡ true) =
      and_parts (are_related p (at k)) (list_all (are_related p) (paths_at F K)) h in
      (turned p (at k) x.0, each_back p K x.1)

  all_to_one : (K : List ℕ) (i : ℕ) → all_related (paths_at F K) ≡ true → Among i K → Each (λ (k : ℕ). are_related (at k) (at i) ≡ true) K
  all_to_one [] i h a = absurd a
  all_to_one (k ∷ K) i h a =
      let x : (list_all (are_related (at k)) (paths_at F K) ≡ true) × (all_related (paths_at F K) ≡ true) =
      and_parts (list_all (are_related (at k)) (paths_at F K)) (all_related (paths_at F K)) h in
      by_side a x.0 (all_to_one K i x.1)
    where
      by_side : (k ≡ i) ⊎ Among i K → list_all (are_related (at k)) (paths_at F K) ≡ true
          → (Among i K → Each (λ (k : ℕ). are_related (at k) (at i) ≡ true) K)
          → Each (λ (k : ℕ). are_related (at k) (at i) ≡ true) (k ∷ K)
      by_side (inl e) y r = (ap (λ (j : ℕ). are_related (at k) (at j)) (sym e) ∙ itself (at k), one_back e (each_back (at k) K y))
        where
          one_back : k ≡ i → Each (λ (l : ℕ). are_related (at l) (at k) ≡ true) K → Each (λ (l : ℕ). are_related (at l) (at i) ≡ true) K
          one_back e b = subst (λ (j : ℕ). Each (λ (l : ℕ). are_related (at l) (at j) ≡ true) K) e b
      by_side (inr h) y r = (first_related (at k) K i y h, r h)

-- going through the numbers, one is met no later than one that isn't less
counting_first : (k i a n : ℕ) → a ≤ k → k ≤ i → comes_first k i (counting a n) ≡ true
counting_first k i a zero h g = refl
counting_first k i a (suc n) h g = by_test (a == k) refl (λ o. counting_first k i (suc a) n o g)
  where
    by_test : (b : Bool) → (a == k) ≡ b → (suc a ≤ k → comes_first k i (counting (suc a) n) ≡ true)
        → (if b then true else if a == i then false else comes_first k i (counting (suc a) n)) ≡ true
    by_test true e f = refl
    by_test false e f =
        let m : (a ≡ k → ⊥) = λ q. true≢false (sym (eq-eqb a k q) ∙ e) in
        let o : suc a ≤ k = omega (arith, h, m) in
        ap (λ (x : Bool). if x then false else comes_first k i (counting (suc a) n)) (ne_eqb a i (λ q. omega (arith, q, o, g))) ∙ f o

-- ---- all of it

module _ (fs : Fields) (F : List (List Step)) (h : list_all (is_leaf_path fs) F ≡ true) (o : AreInReadingOrder fs F) (d : all_differ F ≡ true)
    (i : ℕ) (p : List Step) (e : slice_get F i ≡ Some p) where
  both_read : (k : ℕ) → k < length F → k ≤ i → are_related (get_or F k []) p ≡ true
      → (begins_with (chain_end (get_or F k [])) (chain_end p) ≡ true) × Together (k ≡ i) (Unit {0}) (get_or F k []) p
  both_read k b l r =
      later_reads_both fs F i k p (get_or F k []) h d e (path_there F k b) r
      (ap (comes_first k i) o.0 ∙ counting_first k i 0 (length F) (omega arith) l)

  all_together : (K : List ℕ) → Each (λ (k : ℕ). nat_lt k (length F) ≡ true) K → Each (λ (k : ℕ). k ≤ i) K
      → Each (λ (k : ℕ). are_related (get_or F k []) p ≡ true) K → AllTogether F i p K
  all_together [] b l r = tt
  all_together (k ∷ K) b l r =
      let x : k < length F = less_is k (length F) b.0 in
      ((get_or F k [], path_there F k x, (both_read k x l.0 r.0).1), all_together K b.1 l.1 r.1)

  all_within : (K : List ℕ) → Each (λ (k : ℕ). nat_lt k (length F) ≡ true) K → Each (λ (k : ℕ). k ≤ i) K
      → Each (λ (k : ℕ). are_related (get_or F k []) p ≡ true) K
      → Each (λ (q : List Step). Within fs p (leaf_selected fs F i p h e) (chain_end q)) (paths_at F K)
  all_within [] b l r = tt
  all_within (k ∷ K) b l r =
      let x : k < length F = less_is k (length F) b.0 in
      let u : is_leaf_path fs (get_or F k []) ≡ true = leaf_selected fs F k (get_or F k []) h (path_there F k x) in
      (level_within fs p (leaf_selected fs F i p h e) (get_or F k []) u (both_read k x l.0 r.0).0, all_within K b.1 l.1 r.1)

-- the chain of each of some paths is on the longest
one_begins : (F : List (List Step)) (K : List ℕ) (i : ℕ) (L : List Step) → Each (λ (q : List Step). begins_with (chain_end q) L ≡ true) (paths_at F K)
    → Among i K → begins_with (chain_end (get_or F i [])) L ≡ true
one_begins F [] i L b a = absurd a
one_begins F (k ∷ K) i L b (inl e) = ap (λ (j : ℕ). begins_with (chain_end (get_or F j [])) L) (sym e) ∙ b.0
one_begins F (k ∷ K) i L b (inr a) = one_begins F K i L b.1 a

pub last_reads_all : LastReadsAll
last_reads_all fs F K i h o d b r g =
    let a : Among i K = greatest_among K i g in
    let bs : Each (λ (k : ℕ). nat_lt k (length F) ≡ true) K = tested (λ k. nat_lt k (length F)) K b in
    let l : Each (λ (k : ℕ). k ≤ i) K = none_above K i g in
    let n : i < length F =
    all_among (λ (k : ℕ). nat_lt k (length F) ≡ true) K i bs a (i < length F)
    (λ k e t. less_is i (length F) (ap (λ (j : ℕ). nat_lt j (length F)) (sym e) ∙ t)) in
    let p : List Step = get_or F i [] in
    let e : slice_get F i ≡ Some p = path_there F i n in
    let rs : Each (λ (k : ℕ). are_related (get_or F k []) p ≡ true) K = all_to_one F K i r a in (
      p,
      e,
      all_together fs F h o d i p e K bs l rs,
      longest_is fs p (leaf_selected fs F i p h e) (paths_at F K) (all_within fs F h o d i p e K bs l rs)
          (one_begins F K i (longest_chain (paths_at F K)) (chains_begin (paths_at F K) r) a),
    )

-- ---- what depends on them

pub meant_at_last : (X : Type 0) → MeantAtLast X
meant_at_last X fs F [] f g h o d b r same = (refl, λ c row. same c row tt)
meant_at_last X fs F (k ∷ K) f g h o d b r same =
    let a = last_reads_all fs F (k ∷ K) (greater_of k (greatest K)) h o d b r refl in
    (a.0, a.3, record { path = a.1; leaves = k ∷ K; together = a.2; same = same })

pub last_stands : LastStands
last_stands fs F K w condition h o d b r g chain same =
    let a = last_reads_all fs F K w.last h o d b r g in
    (a.0, record { leaves = h; last = a.1; chain = chain a.0 a.1; together = a.2; decides = same }, a.3)

-- ---- the longest of both

shorter_through : (a b c : List Step) → is_shorter a b ≡ true → is_shorter b c ≡ true → is_shorter a c ≡ true
shorter_through a [] c h g = absurd (true≢false (sym h))
shorter_through a (t ∷ b) [] h g = absurd (true≢false (sym g))
shorter_through [] (t ∷ b) (u ∷ c) h g = refl
shorter_through (s ∷ a) (t ∷ b) (u ∷ c) h g = shorter_through a b c h g

none_shorter : (a b c : List Step) → is_shorter a b ≡ false → is_shorter b c ≡ false → is_shorter a c ≡ false
none_shorter a b [] h g = refl
none_shorter a [] (u ∷ c) h g = absurd (true≢false g)
none_shorter [] (t ∷ b) (u ∷ c) h g = absurd (true≢false h)
none_shorter (s ∷ a) (t ∷ b) (u ∷ c) h g = none_shorter a b c h g

longer_assoc : (a b c : List Step) → longer a (longer b c) ≡ longer (longer a b) c
longer_assoc a b c = by_tests (is_shorter a b) (is_shorter b c) refl refl
  where
    by_tests : (x y : Bool) → is_shorter a b ≡ x → is_shorter b c ≡ y → longer a (if y then c else b) ≡ longer (if x then b else a) c
    by_tests true true h g = ap (λ (z : Bool). if z then c else a) (shorter_through a b c h g) ∙ ap (λ (z : Bool). if z then c else b) (sym g)
    by_tests true false h g = ap (λ (z : Bool). if z then b else a) h ∙ ap (λ (z : Bool). if z then c else b) (sym g)
    by_tests false true h g = refl
    by_tests false false h g = ap (λ (z : Bool). if z then b else a) h ∙ ap (λ (z : Bool). if z then c else a) (sym (none_shorter a b c h g))

nothing_longer : (q : List Step) → q ≡ longer [] q
nothing_longer [] = refl
nothing_longer (t ∷ q) = refl

pub longest_of_both : LongestOfBoth
longest_of_both [] qs = nothing_longer (longest_chain qs)
longest_of_both (p ∷ ps) qs = ap (longer (chain_end p)) (longest_of_both ps qs) ∙ longer_assoc (chain_end p) (longest_chain ps) (longest_chain qs)
