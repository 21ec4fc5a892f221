-- The leaves that are read beside one.
use Rattle.std.proofs.Common.{◌≡◌, ℕ, zero, suc, ◌+◌, ◌<◌, max, List, [], ◌∷◌, ◌++◌, map, length, take, drop, get_or, Bool, true, false, Option, Some, None, inl, inr, refl, sym, ap, ◌∙◌, subst, true≢false, arith, add-one}
use Rattle.std.specs.Prelude.{◌⊎◌, not, ◌||◌, ◌==◌, nat_lt, if◌then◌else◌}
use Rattle.std.specs.List.{list_all, slice_get, slice_index_or}
use Rattle.std.proofs.lemmas.Bool.{and_from, and_parts, eqb-true, eq-eqb, leb-true}
use Rattle.dr_meaning.specs.Path.{Step, begins_with, same_path, chain_end, max_repetition}
use Rattle.dr_meaning.specs.Column.{Triplet}
use Rattle.dr_moves.specs.Selection.{all_differ}
use Rattle.dr_scalar.specs.Leaves.{greater, greatest}
use Rattle.dr_beside.specs.Neighbours.{shared, front}
use Rattle.dr_beside.proofs.NeighbourLemmas.{and_comm, differ_at}
use Rattle.dr_rows_beside.specs.declared.source.Beside.{Beside}
use Rattle.dr_rows_beside.specs.Rows.{source_view, is_apart, all_apart}
use Rattle.dr_rows_beside.specs.RecordRows.{IsBeside, AreBeside}
use Rattle.dr_rows_beside.specs.Sources.{AreReadBeside, is_among, beside_of, with_beside, all_beside, is_numbered, AreOnItsChain, SourcesAreBeside}
use Rattle.dr_agreement.specs.declared.fronts.Front.{Front}
use Rattle.dr_agreement.specs.Fronts.{IsFront}
use Rattle.dr_agreement.proofs.OutlinedLemmas.{not_less, same_at}

-- ---- the front of a path and itself

eq_self : (n : ℕ) → (n == n) ≡ true
eq_self n = eq-eqb n n refl

pub own_front : (p : List Step) → front p p ≡ p
own_front [] = refl
own_front (s ∷ p) = ap (λ (c : Bool). take (if c then suc (shared p p) else 0) (s ∷ p)) (eq_self s.place) ∙ ap (λ (q : List Step). s ∷ q) (own_front p)

pub got_at : (F : List (List Step)) (k : ℕ) (q : List Step) → slice_get F k ≡ Some q → slice_index_or F k [] ≡ q
got_at [] k q e = absurd (cc)
got_at (x ∷ F) zero q e = cc
got_at (x ∷ F) (suc k) q e = got_at F k q e

-- ---- one more

pub less : (a b : ℕ) → nat_lt a b ≡ true → a < b
less a b e = omega (arith, leb-true _ _ e)

apart_from : (k n : ℕ) → (k == n) ≡ false → not (k == n) ≡ true
apart_from k n e = ap not e

flipped : (a b : ℕ) → (a == b) ≡ false → (b == a) ≡ false
flipped a b e = by_test (b == a) refl
  where
    by_test : (c : Bool) → (b == a) ≡ c → c ≡ false
    by_test true t = absurd (true≢false (sym (eq-eqb a b (sym (eqb-true b a t))) ∙ e))
    by_test false t = refl

parts_false : (a b : Bool) → (a || b) ≡ false → (a ≡ false) × (b ≡ false)
parts_false true b e = absurd (true≢false e)
parts_false false b e = (refl, e)

apart_more : (C : List (List Triplet)) (k : ℕ) (bs : List Beside) (b : Beside) → is_apart k (map (source_view C) bs) ≡ true → (b.leaf == k) ≡ false → is_apart k (map (source_view C) (bs ++ b ∷ [])) ≡ true
apart_more C k [] b h e = and_from _ _ (ap not e) refl
apart_more C k (x ∷ bs) b h e = and_from _ _ (and_parts _ _ h).0 (apart_more C k bs b (and_parts _ _ h).1 e)

all_apart_more : (C : List (List Triplet)) (bs : List Beside) (b : Beside) → all_apart (map (source_view C) bs) ≡ true → is_among b.leaf bs ≡ false → all_apart (map (source_view C) (bs ++ b ∷ [])) ≡ true
all_apart_more C [] b h e = refl
all_apart_more C (x ∷ bs) b h e =
    let k : ((x.leaf == b.leaf) ≡ false) × (is_among b.leaf bs ≡ false) = parts_false _ _ e in
    and_from _ _ (apart_more C x.leaf bs b (and_parts _ _ h).0 (flipped x.leaf b.leaf k.0)) (all_apart_more C bs b (and_parts _ _ h).1 k.1)

at_either : (P : Beside → Type 0) (bs : List Beside) (b : Beside) → ((i : ℕ) (x : Beside) → slice_get bs i ≡ Some x → P x) → P b → (i : ℕ) (x : Beside) → slice_get (bs ++ b ∷ []) i ≡ Some x → P x
at_either P [] b h p zero x e = let k : b ≡ x = cc in subst P k p
at_either P [] b h p (suc i) x e = absurd (cc)
at_either P (y ∷ bs) b h p zero x e = h 0 x e
at_either P (y ∷ bs) b h p (suc i) x e = at_either P bs b (λ j z f. h (suc j) z f) p i x e

pub differ_both : (F : List (List Step)) (i j : ℕ) (p q : List Step) → all_differ F ≡ true → (j == i) ≡ false → slice_get F i ≡ Some p → slice_get F j ≡ Some q → same_path p q ≡ false
differ_both F i j p q h n e f = by_test (nat_lt i j) refl
  where
    by_test : (b : Bool) → nat_lt i j ≡ b → same_path p q ≡ false
    by_test true t = differ_at F i j p q h (less i j t) e f
    by_test false t = and_comm (begins_with p q) (begins_with q p) ∙ differ_at F j i q p h (other t) f e
      where
        other : nat_lt i j ≡ false → j < i
        other u = omega (arith, not_less i j u, (λ (z : j ≡ i). true≢false (sym (eq-eqb j i z) ∙ n)))

one_more : (F : List (List Step)) (leaf : ℕ) (p : List Step) (bs : List Beside) (k : ℕ) → all_differ F ≡ true → AreBeside F leaf p bs → ((q : List Step) × (slice_get F k ≡ Some q) × (begins_with (chain_end q) (chain_end p) ≡ true))
    → AreBeside F leaf p (with_beside F leaf bs k)
one_more F leaf p bs k d a (q, e, c) = by_test ((k == leaf) || is_among k bs) refl
  where
    by_test : (b : Bool) → ((k == leaf) || is_among k bs) ≡ b → AreBeside F leaf p (if b then bs else bs ++ beside_of F k ∷ [])
    by_test true t = a
    by_test false t =
        let w : ((k == leaf) ≡ false) × (is_among k bs ≡ false) = parts_false _ _ t in
        let new : IsBeside F p (beside_of F k) = record {
          path = q;
          is_path = e;
          deep = ap max_repetition (got_at F k q e);
          on_chain = c;
          other = differ_both F leaf k p q d w.0 a.is_path e;
        } in
        record {
          is_path = a.is_path;
          each = at_either (IsBeside F p) bs (beside_of F k) a.each new;
          apart = λ C. apart_more C leaf bs (beside_of F k) (a.apart C) w.0;
          all_different = λ C. all_apart_more C bs (beside_of F k) (a.all_different C) w.1;
        }

all_more : (F : List (List Step)) (leaf : ℕ) (p : List Step) (bs : List Beside) (ks : List ℕ) → all_differ F ≡ true → AreBeside F leaf p bs → AreOnItsChain F p ks → AreBeside F leaf p (all_beside F leaf bs ks)
all_more F leaf p bs [] d a h = a
all_more F leaf p bs (k ∷ ks) d a h = all_more F leaf p (with_beside F leaf bs k) ks d (one_more F leaf p bs k d a h.0) h.1

-- ---- each is among them

abbrev IsThere : ℕ → List Beside → Type 0
IsThere k bs = (i : ℕ) × (b : Beside) × (slice_get bs i ≡ Some b) × (b.leaf ≡ k)

there_more : (k : ℕ) (bs : List Beside) (b : Beside) → IsThere k bs → IsThere k (bs ++ b ∷ [])
there_more k [] b (i, x, e, l) = absurd (cc)
there_more k (y ∷ bs) b (zero, x, e, l) = (0, x, e, l)
there_more k (y ∷ bs) b (suc i, x, e, l) =
    let w : IsThere k (bs ++ b ∷ []) = there_more k bs b (i, x, e, l) in
    (suc w.0, w.1, w.2, w.3)

there_last : (bs : List Beside) (b : Beside) → IsThere b.leaf (bs ++ b ∷ [])
there_last [] b = (0, b, refl, refl)
there_last (y ∷ bs) b = let w : IsThere b.leaf (bs ++ b ∷ []) = there_last bs b in (suc w.0, w.1, w.2, w.3)

among_by : (c : Bool) (k : ℕ) (b : Beside) (bs : List Beside) → (b.leaf == k) ≡ c → (c || is_among k bs) ≡ true → (is_among k bs ≡ true → IsThere k bs) → IsThere k (b ∷ bs)
among_by true k b bs t e h = (0, b, refl, eqb-true b.leaf k t)
among_by false k b bs t e h = let w : IsThere k bs = h e in (suc w.0, w.1, w.2, w.3)

among_there : (k : ℕ) (bs : List Beside) → is_among k bs ≡ true → IsThere k bs
among_there k [] e = absurd (true≢false (sym e))
among_there k (b ∷ bs) e = among_by (b.leaf == k) k b bs refl e (among_there k bs)

with_stays : (F : List (List Step)) (leaf : ℕ) (bs : List Beside) (k j : ℕ) → IsThere j bs → IsThere j (with_beside F leaf bs k)
with_stays F leaf bs k j h = by_test ((k == leaf) || is_among k bs)
  where
    by_test : (b : Bool) → IsThere j (if b then bs else bs ++ beside_of F k ∷ [])
    by_test true = h
    by_test false = there_more j bs (beside_of F k) h

all_stays : (F : List (List Step)) (leaf : ℕ) (bs : List Beside) (ks : List ℕ) (j : ℕ) → IsThere j bs → IsThere j (all_beside F leaf bs ks)
all_stays F leaf bs [] j h = h
all_stays F leaf bs (k ∷ ks) j h = all_stays F leaf (with_beside F leaf bs k) ks j (with_stays F leaf bs k j h)

with_there : (F : List (List Step)) (leaf : ℕ) (bs : List Beside) (k : ℕ) → (k ≡ leaf) ⊎ IsThere k (with_beside F leaf bs k)
with_there F leaf bs k = by_leaf (k == leaf) refl
  where
    by_among : (b : Bool) → is_among k bs ≡ b → IsThere k (if b then bs else bs ++ beside_of F k ∷ [])
    by_among true t = among_there k bs t
    by_among false t = there_last bs (beside_of F k)

    by_leaf : (b : Bool) → (k == leaf) ≡ b → (k ≡ leaf) ⊎ IsThere k (if b || is_among k bs then bs else bs ++ beside_of F k ∷ [])
    by_leaf true t = inl (eqb-true k leaf t)
    by_leaf false t = inr (by_among (is_among k bs) refl)

each_read : (F : List (List Step)) (leaf : ℕ) (bs : List Beside) (ks : List ℕ) → AreReadBeside leaf (all_beside F leaf bs ks) ks
each_read F leaf bs [] = tt
each_read F leaf bs (k ∷ ks) = (later (with_there F leaf bs k), each_read F leaf (with_beside F leaf bs k) ks)
  where
    later : (k ≡ leaf) ⊎ IsThere k (with_beside F leaf bs k) → (k ≡ leaf) ⊎ IsThere k (all_beside F leaf (with_beside F leaf bs k) ks)
    later (inl e) = inl e
    later (inr h) = inr (all_stays F leaf (with_beside F leaf bs k) ks k h)

pub sources_are_beside : SourcesAreBeside
sources_are_beside F leaf p ks d e h =
    let none : AreBeside F leaf p [] = record { is_path = e; each = λ i b f. absurd (cc); apart = λ C. refl; all_different = λ C. refl } in
    (all_more F leaf p [] ks d none h, each_read F leaf [] ks)

-- ---- in code

pub numbered_at : (n : ℕ) (ks : List ℕ) (i d : ℕ) → i < length ks → list_all (is_numbered n) ks ≡ true → get_or ks i d < n
numbered_at n [] i d h e = absurd (omega (arith, h))
numbered_at n (k ∷ ks) zero d h e = less k n (and_parts _ _ e).0
numbered_at n (k ∷ ks) (suc i) d h e = numbered_at n ks i d (omega (arith, h)) (and_parts _ _ e).1

pub one_read : (F : List (List Step)) (leaf : ℕ) (ks : List ℕ) (i k : ℕ) (before after all : List Beside) → i < length ks → k ≡ get_or ks i k → all_beside F leaf before (drop i ks) ≡ all → after ≡ with_beside F leaf before k
    → all_beside F leaf after (drop (i + 1) ks) ≡ all
one_read F leaf [] i k before after all h e b a = absurd (omega (arith, h))
one_read F leaf (x ∷ ks) zero k before after all h e b a =
    ap (λ (bs : List Beside). all_beside F leaf bs ks) (a ∙ ap (with_beside F leaf before) e) ∙ b
one_read F leaf (x ∷ ks) (suc i) k before after all h e b a =
    ap (λ (n : ℕ). all_beside F leaf after (drop n (x ∷ ks))) (add-one (suc i)) ∙ ap (λ (n : ℕ). all_beside F leaf after (drop n ks)) (sym (add-one i)) ∙ one_read F leaf ks i k before after all (omega (arith, h)) e b a

pub own_depth : (F : List (List Step)) (k : ℕ) (f : Front) → IsFront F k k f → f.repeated ≡ max_repetition (slice_index_or F k [])
own_depth F k f w =
    let same : w.other ≡ w.path = same_at F k w.other w.path w.is_other w.is_path in
    w.repeated ∙ ap (λ (q : List Step). max_repetition (front w.path q)) same ∙ ap max_repetition (own_front w.path) ∙ ap max_repetition (sym (got_at F k w.path w.is_path))

pub pushed : (F : List (List Step)) (leaf k d : ℕ) (before after : List Beside) → (k ≡ leaf → ⊥) → is_among k before ≡ false → d ≡ max_repetition (slice_index_or F k []) → after ≡ before ++ record { leaf = k; depth = d } ∷ []
    → after ≡ with_beside F leaf before k
pushed F leaf k d before after n a e p =
    p ∙ ap (λ (m : ℕ). before ++ record { leaf = k; depth = m } ∷ []) e ∙ sym (by_test (k == leaf) refl)
  where
    by_test : (b : Bool) → (k == leaf) ≡ b → (if b || is_among k before then before else before ++ beside_of F k ∷ []) ≡ before ++ beside_of F k ∷ []
    by_test true t = absurd (n (eqb-true k leaf t))
    by_test false t = ap (λ (b : Bool). if b then before else before ++ beside_of F k ∷ []) a

-- ---- the last of some leaves

greatest_by : (n k m : ℕ) (o : Option ℕ) → k < n → ((j : ℕ) → o ≡ Some j → j < n) → greater (Some k) o ≡ Some m → m < n
greatest_by n k m None h g e = let z : k ≡ m = cc in omega (arith, z, h)
greatest_by n k m (Some j) h g e = let z : max k j ≡ m = cc in omega (arith, z, h, g j refl)

pub greatest_there : (n : ℕ) (ks : List ℕ) (m : ℕ) → list_all (is_numbered n) ks ≡ true → greatest ks ≡ Some m → m < n
greatest_there n [] m h e = absurd (cc)
greatest_there n (k ∷ ks) m h e = greatest_by n k m (greatest ks) (less k n (and_parts _ _ h).0) (λ j f. greatest_there n ks j (and_parts _ _ h).1 f) e
