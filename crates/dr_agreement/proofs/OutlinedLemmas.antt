-- Neighbours that are found, and outlines that are put.
use Rattle.std.proofs.Common.{◌≡◌, ℕ, zero, suc, ◌+◌, ◌*◌, ◌<◌, ◌≤◌, List, [], ◌∷◌, ◌++◌, map, length, take, get_or, Bool, true, false, Option, Some, None, inl, inr, refl, sym, ap, ap₂, ◌∙◌, subst, true≢false, arith, add-one}
use Rattle.std.specs.Prelude.{◌==◌, ◌⊎◌, min, nat_le, nat_lt, if◌then◌else◌}
use Rattle.std.specs.List.{list_all, slice_get}
use Rattle.std.proofs.lemmas.Option.{slice_get_within}
use Rattle.std.proofs.lemmas.Bool.{and_parts, and_from, leb-true, le-leb, eqb-true, eq-eqb}
use Rattle.std.proofs.lemmas.Bool.Decides.{nat_tests}
use Rattle.std.proofs.lemmas.List.{map-append}
use Rattle.std.proofs.Math.Seq.{take-suc}
use Rattle.dr_meaning.specs.Record.{Value}
use Rattle.dr_meaning.specs.Column.{Triplet, triplet}
use Rattle.dr_beside.specs.Outlines.{outline}
use Rattle.dr_levels.specs.Views.{levels_pair, triplet_levels, triplets_view}
use Rattle.dr_levels.specs.declared.triplet.Levels.{Levels}
use Rattle.dr_levels.specs.declared.triplets.Triplets.{Triplets}
use Rattle.dr_meaning.specs.Path.{Step}
use Rattle.dr_beside.specs.Neighbours as meant
use Rattle.dr_beside.specs.Neighbours.{shared, column_at}
use Rattle.dr_agreement.specs.declared.outlines.Neighbours.{Neighbours}
use Rattle.dr_agreement.specs.Fronts.{IsFront}
use Rattle.dr_agreement.specs.Outlines.{neighbours_view, IsNearest, outlined, AgreeEach, is_within}

-- ---- columns by their numbers

pub column_of : (cs : List Triplets) (i : ℕ) (x : Triplets) → i < length cs → x ≡ get_or cs i x → triplets_view x ≡ column_at (map triplets_view cs) i
column_of [] i x h e = absurd (omega (arith, h))
column_of (c ∷ cs) zero x h e = ap triplets_view e
column_of (c ∷ cs) (suc i) x h e = column_of cs i x (omega (arith, h)) e

-- ---- the nearest of the first so many

pub record NearestUpTo (F : List (List Step)) (i m : ℕ) (n : Neighbours) : Type 0 where
  pub is_front : IsFront F i n.earlier n.front
  pub earlier : n.earlier < m
  pub most : (k : ℕ) (e : List Step) → k < m → slice_get F k ≡ Some e → shared is_front.path e ≤ n.front.steps

-- ---- neighbours of the first so many leaves

pub record FoundUpTo (F : List (List Step)) (m : ℕ) (N : List meant.Neighbours) : Type 0 where
  pub each : (k : ℕ) (n : meant.Neighbours) → slice_get N k ≡ Some n → meant.AreNeighbours F n
  pub for_each : (i : ℕ) → 0 < i → i < m → meant.HasNeighbours F N i

pub same_at : (F : List (List Step)) (i : ℕ) (p q : List Step) → slice_get F i ≡ Some p → slice_get F i ≡ Some q → p ≡ q
same_at F i p q e f = cc

pub not_less : (a b : ℕ) → nat_lt a b ≡ false → b ≤ a
not_less a b h = by_test (nat_le b a) refl
  where
    by_test : (t : Bool) → nat_le b a ≡ t → b ≤ a
    by_test true e = leb-true b a e
    by_test false e = absurd (true≢false (sym (le-leb (suc a) b (above a b e)) ∙ h))
      where
        above : (a b : ℕ) → nat_le b a ≡ false → suc a ≤ b
        above a b e = grind (arith, nat_tests)

only_zero : (k : ℕ) → k < 1 → k ≡ 0
only_zero k h = omega (arith, h)

pub nearest_first : (F : List (List Step)) (i : ℕ) (n : Neighbours) → n.earlier ≡ 0 → IsFront F i 0 n.front → NearestUpTo F i 1 n
nearest_first F i n z f = record {
  is_front = record { path = f.path; other = f.other; is_path = f.is_path; is_other = ap (slice_get F) z ∙ f.is_other; steps = f.steps; repeated = f.repeated; defined = f.defined };
  earlier = omega (arith, z);
  most = λ k e h g. let q : f.other ≡ e = same_at F 0 f.other e f.is_other (ap (slice_get F) (sym (only_zero k h)) ∙ g) in omega (arith, f.steps, ap (shared f.path) q);
}

cases_le : (k m : ℕ) → k < m + 1 → (k < m) ⊎ (k ≡ m)
cases_le k m h = by_test (k == m) refl
  where
    by_test : (b : Bool) → (k == m) ≡ b → (k < m) ⊎ (k ≡ m)
    by_test true e = inr (eqb-true k m e)
    by_test false e = let n : k ≡ m → ⊥ = (λ (z : k ≡ m). true≢false (sym (eq-eqb k m z) ∙ e)) in inl (omega (arith, h, n))

nearest_by : (b : Bool) (F : List (List Step)) (i m : ℕ) (best other : Neighbours) → nat_lt best.front.steps other.front.steps ≡ b → NearestUpTo F i m best → other.earlier ≡ m → IsFront F i m other.front → NearestUpTo F i (m + 1) (if b then other else best)
nearest_by true F i m best other t w z f = record {
  is_front = record { path = f.path; other = f.other; is_path = f.is_path; is_other = ap (slice_get F) z ∙ f.is_other; steps = f.steps; repeated = f.repeated; defined = f.defined };
  earlier = omega (arith, z);
  most = λ k e h g. most k e (cases_le k m h) g;
}
  where
    longer : best.front.steps < other.front.steps
    longer = leb-true (suc best.front.steps) other.front.steps t

    most : (k : ℕ) (e : List Step) → ((k < m) ⊎ (k ≡ m)) → slice_get F k ≡ Some e → shared f.path e ≤ other.front.steps
    most k e (inl h) g =
        let p : w.is_front.path ≡ f.path = same_at F i w.is_front.path f.path w.is_front.is_path f.is_path in
        let q : shared f.path e ≤ best.front.steps = subst (λ (x : List Step). shared x e ≤ best.front.steps) p (w.most k e h g) in
        omega (arith, q, longer)
    most k e (inr h) g = let q : f.other ≡ e = same_at F m f.other e f.is_other (ap (slice_get F) (sym h) ∙ g) in omega (arith, f.steps, ap (shared f.path) q)
nearest_by false F i m best other t w z f = record {
  is_front = w.is_front;
  earlier = omega (arith, w.earlier);
  most = λ k e h g. most k e (cases_le k m h) g;
}
  where
    shorter : other.front.steps ≤ best.front.steps
    shorter = not_less best.front.steps other.front.steps t

    most : (k : ℕ) (e : List Step) → ((k < m) ⊎ (k ≡ m)) → slice_get F k ≡ Some e → shared w.is_front.path e ≤ best.front.steps
    most k e (inl h) g = w.most k e h g
    most k e (inr h) g =
        let p : f.path ≡ w.is_front.path = same_at F i f.path w.is_front.path f.is_path w.is_front.is_path in
        let q : f.other ≡ e = same_at F m f.other e f.is_other (ap (slice_get F) (sym h) ∙ g) in
        omega (arith, f.steps, shorter, ap₂ shared p q)

pub nearest_more : (F : List (List Step)) (i m : ℕ) (best other made : Neighbours) → made ≡ (if nat_lt best.front.steps other.front.steps then other else best) → NearestUpTo F i m best → other.earlier ≡ m → IsFront F i m other.front → NearestUpTo F i (m + 1) made
nearest_more F i m best other made e w z f = subst (NearestUpTo F i (m + 1)) (sym e) (nearest_by (nat_lt best.front.steps other.front.steps) F i m best other refl w z f)

pub leaf_by : (b : Bool) (one other : Neighbours) (i : ℕ) → one.leaf ≡ i → other.leaf ≡ i → (if b then other else one).leaf ≡ i
leaf_by true one other i e f = f
leaf_by false one other i e f = e

pub nearest_all : (F : List (List Step)) (i m : ℕ) (n : Neighbours) → m ≡ i → NearestUpTo F i m n → IsNearest F i n
nearest_all F i m n e w = record {
  is_front = w.is_front;
  earlier = omega (arith, e, w.earlier);
  most = λ k s h g. w.most k s (omega (arith, e, h)) g;
}

-- ---- neighbours that are found

pub none_found : (F : List (List Step)) → FoundUpTo F 1 []
none_found F = record {
  each = λ k n e. absurd (cc);
  for_each = λ i g h. absurd (omega (arith, g, h));
}

are_neighbours : (F : List (List Step)) (n : Neighbours) → IsNearest F n.leaf n → meant.AreNeighbours F (neighbours_view n)
are_neighbours F n w = (
  record {
    path = w.is_front.path;
    other = w.is_front.other;
    is_path = w.is_front.is_path;
    is_other = w.is_front.is_other;
    earlier = w.earlier;
    most = λ k e h g. let q : shared w.is_front.path e ≤ n.front.steps = w.most k e h g in omega (arith, q, w.is_front.steps);
  },
  w.is_front.repeated,
  w.is_front.defined,
)

at_end : (N : List meant.Neighbours) (x : meant.Neighbours) → slice_get (N ++ x ∷ []) (length N) ≡ Some x
at_end [] x = refl
at_end (n ∷ N) x = at_end N x

still_at : (N : List meant.Neighbours) (x : meant.Neighbours) (k : ℕ) (n : meant.Neighbours) → slice_get N k ≡ Some n → slice_get (N ++ x ∷ []) k ≡ Some n
still_at [] x k n e = absurd (cc)
still_at (y ∷ N) x zero n e = e
still_at (y ∷ N) x (suc k) n e = still_at N x k n e

at_either : (N : List meant.Neighbours) (x : meant.Neighbours) (k : ℕ) (n : meant.Neighbours) → slice_get (N ++ x ∷ []) k ≡ Some n → (slice_get N k ≡ Some n) ⊎ (x ≡ n)
at_either [] x zero n e = inr (cc)
at_either [] x (suc k) n e = absurd (cc)
at_either (y ∷ N) x zero n e = inl e
at_either (y ∷ N) x (suc k) n e = at_either N x k n e

found_by : (b : Bool) (F : List (List Step)) (m : ℕ) (N : List meant.Neighbours) (x : meant.Neighbours) → nat_lt 0 x.defined ≡ b → x.leaf ≡ m → meant.AreNeighbours F x → FoundUpTo F m N → FoundUpTo F (m + 1) (if b then N ++ x ∷ [] else N)
found_by true F m N x t l a w = record { each = λ k n e. each k n (at_either N x k n e); for_each = λ i g h. for_each i g (cases_le i m h) }
  where
    each : (k : ℕ) (n : meant.Neighbours) → ((slice_get N k ≡ Some n) ⊎ (x ≡ n)) → meant.AreNeighbours F n
    each k n (inl e) = w.each k n e
    each k n (inr e) = subst (meant.AreNeighbours F) e a

    still : (n : meant.Neighbours) → ((n.defined ≡ 0) ⊎ ((k : ℕ) × (slice_get N k ≡ Some n))) → (n.defined ≡ 0) ⊎ ((k : ℕ) × (slice_get (N ++ x ∷ []) k ≡ Some n))
    still n (inl z) = inl z
    still n (inr (k, e)) = inr (k, still_at N x k n e)

    for_each : (i : ℕ) → 0 < i → ((i < m) ⊎ (i ≡ m)) → meant.HasNeighbours F (N ++ x ∷ []) i
    for_each i g (inl h) = let y : meant.HasNeighbours F N i = w.for_each i g h in (y.0, y.1, y.2, still y.0 y.3)
    for_each i g (inr h) = (x, l ∙ sym h, a, inr (length N, at_end N x))
found_by false F m N x t l a w = record { each = w.each; for_each = λ i g h. for_each i g (cases_le i m h) }
  where
    none : x.defined ≡ 0
    none = let q : x.defined ≤ 0 = not_less 0 x.defined t in omega (arith, q)

    for_each : (i : ℕ) → 0 < i → ((i < m) ⊎ (i ≡ m)) → meant.HasNeighbours F N i
    for_each i g (inl h) = w.for_each i g h
    for_each i g (inr h) = (x, l ∙ sym h, a, inl none)

seen_by : (b : Bool) (xs : List Neighbours) (x : Neighbours) → map neighbours_view (if b then xs ++ x ∷ [] else xs) ≡ (if b then map neighbours_view xs ++ neighbours_view x ∷ [] else map neighbours_view xs)
seen_by true xs x = map-append neighbours_view xs (x ∷ [])
seen_by false xs x = refl

pub found_more : (F : List (List Step)) (m : ℕ) (xs ys : List Neighbours) (x : Neighbours) → ys ≡ (if nat_lt 0 x.front.defined then xs ++ x ∷ [] else xs) → x.leaf ≡ m → IsNearest F m x → FoundUpTo F m (map neighbours_view xs) → FoundUpTo F (m + 1) (map neighbours_view ys)
found_more F m xs ys x e l n w =
    subst (FoundUpTo F (m + 1)) (sym (ap (map neighbours_view) e ∙ seen_by (nat_lt 0 x.front.defined) xs x))
    (found_by (nat_lt 0 x.front.defined) F m (map neighbours_view xs) (neighbours_view x) refl l (are_neighbours F x (subst (λ (i : ℕ). IsNearest F i x) (sym l) n)) w)

pub found_all : (F : List (List Step)) (m : ℕ) (N : List meant.Neighbours) → length F ≤ m → FoundUpTo F m N → meant.AreAllNeighbours F N
found_all F m N h w = record { each = w.each; for_each = λ i g l. w.for_each i g (omega (arith, h, l)) }

-- ---- outlines that are put

abbrev pub code : Triplet → ℕ
code t = t.repetition * 256 + t.definition

codes_by : (b : Bool) (n : ℕ) (ns : List ℕ) (x : Triplet) (xs : List Triplet) → n ≡ code x → ns ≡ map code xs → (if b then n ∷ ns else ns) ≡ map code (if b then x ∷ xs else xs)
codes_by true n ns x xs e f = ap₂ (λ (y : ℕ) (ys : List ℕ). y ∷ ys) e f
codes_by false n ns x xs e f = f

pub outlined_codes : (r d : ℕ) (ls : List Levels) (ts : List Triplet) → map levels_pair ls ≡ map triplet_levels ts → outlined r d ls ≡ map code (outline r d ts)
outlined_codes r d [] [] h = refl
outlined_codes r d [] (t ∷ ts) h = absurd (cc)
outlined_codes r d (l ∷ ls) [] h = absurd (cc)
outlined_codes r d (l ∷ ls) (t ∷ ts) h =
    let a : levels_pair l ≡ triplet_levels t = cc in
    let b : map levels_pair ls ≡ map triplet_levels ts = cc in
    ap₂ (λ (x y : ℕ). if nat_le x r then (x * 256 + min y d) ∷ outlined r d ls else outlined r d ls) (ap (λ (p : ℕ × ℕ). p.0) a) (ap (λ (p : ℕ × ℕ). p.1) a)
    ∙ codes_by (nat_le t.repetition r) (t.repetition * 256 + min t.definition d) (outlined r d ls) (triplet t.repetition (min t.definition d) None) (outline r d ts) refl (outlined_codes r d ls ts b)

-- triplets without values, with definition levels of a byte
abbrev AreBare : List Triplet → Type 0
AreBare [] = Unit {0}
AreBare (t ∷ ts) = (t.definition < 256) × (t.value ≡ None) × AreBare ts

bare_by : (b : Bool) (x : Triplet) (xs : List Triplet) → x.definition < 256 → x.value ≡ None → AreBare xs → AreBare (if b then x ∷ xs else xs)
bare_by true x xs h e a = (h, e, a)
bare_by false x xs h e a = a

bare : (r d : ℕ) (ts : List Triplet) → d < 256 → AreBare (outline r d ts)
bare r d [] h = tt
bare r d (t ∷ ts) h = bare_by (nat_le t.repetition r) (triplet t.repetition (min t.definition d) None) (outline r d ts) (omega (arith, h)) refl (bare r d ts h)

same_codes : (xs ys : List Triplet) → AreBare xs → AreBare ys → map code xs ≡ map code ys → xs ≡ ys
same_codes [] [] a b h = refl
same_codes [] (y ∷ ys) a b h = absurd (cc)
same_codes (x ∷ xs) [] a b h = absurd (cc)
same_codes (x ∷ xs) (y ∷ ys) a b h =
    let e : code x ≡ code y = cc in
    let f : map code xs ≡ map code ys = cc in
    let r : x.repetition ≡ y.repetition = omega (arith, e, a.0, b.0) in
    let d : x.definition ≡ y.definition = omega (arith, e, a.0, b.0) in
    ap₂ (λ (z : Triplet) (zs : List Triplet). z ∷ zs)
    (ap₂ (λ (m n : ℕ). triplet m n x.value) r d ∙ ap (λ (v : Option Value). triplet y.repetition y.definition v) (a.1 ∙ sym b.1)) (same_codes xs ys a.2 b.2 f)

pub same_outlines : (r d : ℕ) (ls ms : List Levels) (ts us : List Triplet) → d < 256 → map levels_pair ls ≡ map triplet_levels ts → map levels_pair ms ≡ map triplet_levels us → outlined r d ls ≡ outlined r d ms → outline r d ts ≡ outline r d us
same_outlines r d ls ms ts us h e f g =
    same_codes (outline r d ts) (outline r d us) (bare r d ts h) (bare r d us h) (sym (outlined_codes r d ls ts e) ∙ g ∙ outlined_codes r d ms us f)

pub other_outlines : (r d : ℕ) (ls ms : List Levels) (ts us : List Triplet) → map levels_pair ls ≡ map triplet_levels ts → map levels_pair ms ≡ map triplet_levels us → outline r d ts ≡ outline r d us → outlined r d ls ≡ outlined r d ms
other_outlines r d ls ms ts us e f g = outlined_codes r d ls ts e ∙ ap (map code) g ∙ sym (outlined_codes r d ms us f)

-- ---- all that agree

pub columns_at : (cs : List Triplets) (i : ℕ) (x : Triplets) → i < length cs → x ≡ get_or cs i x → column_at (map triplets_view cs) i ≡ triplets_view x
columns_at cs i x h e = sym (column_of cs i x h e)

one_agrees : (C : List (List Triplet)) (xs : List Neighbours) (i : ℕ) (d : Neighbours) → i < length xs → meant.Agree C (neighbours_view (get_or xs i d)) → AgreeEach C (map neighbours_view (take i xs)) → AgreeEach C (map neighbours_view (take (suc i) xs))
one_agrees C xs i d h a w k n e = by_either (at_either (map neighbours_view (take i xs)) (neighbours_view (get_or xs i d)) k n (ap (λ (N : List meant.Neighbours). slice_get N k) (sym more) ∙ e))
  where
    more : map neighbours_view (take (suc i) xs) ≡ map neighbours_view (take i xs) ++ neighbours_view (get_or xs i d) ∷ []
    more = ap (map neighbours_view) (take-suc xs i d h) ∙ map-append neighbours_view (take i xs) (get_or xs i d ∷ [])

    by_either : ((slice_get (map neighbours_view (take i xs)) k ≡ Some n) ⊎ (neighbours_view (get_or xs i d) ≡ n)) → meant.Agree C n
    by_either (inl f) = w k n f
    by_either (inr f) = subst (meant.Agree C) f a

pub agree_more : (C : List (List Triplet)) (xs : List Neighbours) (i : ℕ) (d : Neighbours) → i < length xs → meant.Agree C (neighbours_view (get_or xs i d)) → AgreeEach C (map neighbours_view (take i xs)) → AgreeEach C (map neighbours_view (take (i + 1) xs))
agree_more C xs i d h a w = subst (λ (j : ℕ). AgreeEach C (map neighbours_view (take j xs))) (sym (add-one i)) (one_agrees C xs i d h a w)

pub neighbours_there : (xs : List Neighbours) (i : ℕ) (d : Neighbours) → i < length xs → slice_get (map neighbours_view xs) i ≡ Some (neighbours_view (get_or xs i d))
neighbours_there [] i d h = absurd (omega (arith, h))
neighbours_there (x ∷ xs) zero d h = refl
neighbours_there (x ∷ xs) (suc i) d h = neighbours_there xs i d (omega (arith, h))

pub within_at : (n : ℕ) (xs : List Neighbours) (i : ℕ) (d : Neighbours) → i < length xs → list_all (is_within n) xs ≡ true → ((get_or xs i d).leaf < n) × ((get_or xs i d).earlier < n)
within_at n [] i d h e = absurd (omega (arith, h))
within_at n (x ∷ xs) zero d h e =
    let k : (nat_lt x.leaf n ≡ true) × (nat_lt x.earlier n ≡ true) = and_parts _ _ (and_parts (is_within n x) (list_all (is_within n) xs) e).0 in
    (leb-true (suc x.leaf) n k.0, leb-true (suc x.earlier) n k.1)
within_at n (x ∷ xs) (suc i) d h e = within_at n xs i d (omega (arith, h)) (and_parts (is_within n x) (list_all (is_within n) xs) e).1

-- ---- neighbours are among their leaves

within_each : (F : List (List Step)) (xs : List Neighbours) (n : ℕ) → length F ≡ n → ((k : ℕ) (m : meant.Neighbours) → slice_get (map neighbours_view xs) k ≡ Some m → meant.AreNeighbours F m) → list_all (is_within n) xs ≡ true
within_each F [] n l h = refl
within_each F (x ∷ xs) n l h =
    let w : meant.AreNeighbours F (neighbours_view x) = h 0 (neighbours_view x) refl in
    let a : x.leaf < length F = slice_get_within F x.leaf w.0.path w.0.is_path in
    and_from _ _ (and_from _ _ (le-leb (suc x.leaf) n (omega (arith, a, l))) (le-leb (suc x.earlier) n (omega (arith, a, l, w.0.earlier)))) (within_each F xs n l (λ k m e. h (suc k) m e))

pub all_within : (F : List (List Step)) (xs : List Neighbours) (n : ℕ) → length F ≡ n → meant.AreAllNeighbours F (map neighbours_view xs) → list_all (is_within n) xs ≡ true
all_within F xs n l w = within_each F xs n l w.each
