-- What is at hand of leaves' columns.
use Rattle.std.proofs.Common.{◌≡◌, ◌≢◌, ◌<◌, ◌≤◌, ◌+◌, ◌-◌, ◌⊎◌, inl, inr, ℕ, zero, suc, List, [], ◌∷◌, ◌++◌, map, length, take, drop, get_or, Bool, true, false, Option, Some, None, refl, sym, ap, ap₂, subst, ◌∙◌, true≢false, arith}
use Rattle.std.specs.Prelude.{◌==◌, if◌then◌else◌, is_some, not, slice_set, min}
use Rattle.std.specs.List.{list_all}
use Rattle.std.proofs.lemmas.Bool.{and_parts, cases_lt}
use Rattle.std.proofs.lemmas.List.{get_or-map, get_or_push, get_or_append_left, get_or_past, length-append, length-map, length-drop, take-append-drop, drop-drop, map_push}
use Rattle.std.proofs.Math.Seq.{take-append_seam}
use Rattle.dr_meaning.specs.Record.{Value}
use Rattle.dr_meaning.specs.Column.{Triplet, triplet}
use Rattle.dr_meaning.specs.OneColumn.{starts}
use Rattle.dr_meaning.proofs.ColumnStarts.{starts_append}
use Rattle.dr_levels.specs.Dense.{present, joined, first_of, value_list}
use Rattle.dr_levels.specs.Lent.{present_values}
use Rattle.dr_levels.specs.Views.{levels_pair, triplet_levels, triplets_view}
use Rattle.dr_levels.specs.declared.triplet.Levels.{Levels}
use Rattle.dr_levels.specs.declared.triplets.Triplets.{Triplets}
use Rattle.dr_moves.specs.Leading.{columns_of}
use Rattle.dr_agreement.specs.AtHand.{rest_of, whole, whole_of, whole_at, here_of, ends_of, CanPass, IsKept}
use Rattle.dr_agreement.specs.declared.at_hand.AtHand.{AtHand}
use Rattle.dr_agreement.specs.declared.at_hand.Kept.{Kept}
use Rattle.dr_agreement.proofs.AloneLemmas.{is_dense, dense_triplets}

-- ---- triplets again, of their levels and the values that they have

abbrev Rejoins : ℕ → List Levels → List Triplet → Type 0
Rejoins g ls ts = (joined g ls (present_values ts) ≡ ts) × (present g ls ≡ length (present_values ts))

same_head : (x y : ℕ × ℕ) (xs ys : List (ℕ × ℕ)) → x ∷ xs ≡ y ∷ ys → x ≡ y
same_head x y xs ys e = cc

same_tail : (x y : ℕ × ℕ) (xs ys : List (ℕ × ℕ)) → x ∷ xs ≡ y ∷ ys → xs ≡ ys
same_tail x y xs ys e = cc

rejoins_more : (g r d : ℕ) (v : Option Value) (ls : List Levels) (ts : List Triplet) (b : Bool) → (d == g) ≡ b → (if b then is_some v else not (is_some v)) ≡ true → Rejoins g ls ts
    → ((if b then triplet r d (first_of (value_list v ++ present_values ts)) ∷ joined g ls (drop 1 (value_list v ++ present_values ts)) else triplet r d None ∷ joined g ls (value_list v ++ present_values ts)) ≡ triplet r d v ∷ ts)
    × ((if b then suc (present g ls) else present g ls) ≡ length (value_list v ++ present_values ts))
rejoins_more g r d None ls ts true e h ih = absurd (true≢false (sym h))
rejoins_more g r d (Some v) ls ts true e h ih = (ap (λ (us : List Triplet). triplet r d (Some v) ∷ us) ih.0, ap suc ih.1)
rejoins_more g r d None ls ts false e h ih = (ap (λ (us : List Triplet). triplet r d None ∷ us) ih.0, ih.1)
rejoins_more g r d (Some v) ls ts false e h ih = absurd (true≢false (sym h))

rejoined : (g : ℕ) (ls : List Levels) (ts : List Triplet) → map levels_pair ls ≡ map triplet_levels ts → list_all (is_dense g) ts ≡ true → Rejoins g ls ts
rejoined g [] [] e h = (refl, refl)
rejoined g [] (t ∷ ts) e h = absurd (cc)
rejoined g (l ∷ ls) [] e h = absurd (cc)
rejoined g (l ∷ ls) (t ∷ ts) e h =
    let k : (is_dense g t ≡ true) × (list_all (is_dense g) ts ≡ true) = and_parts (is_dense g t) (list_all (is_dense g) ts) h in
    let same = same_head (levels_pair l) (triplet_levels t) (map levels_pair ls) (map triplet_levels ts) e in
    let r : l.repetition ≡ t.repetition = ap (λ (x : ℕ × ℕ). x.0) same in
    let d : l.definition ≡ t.definition = ap (λ (x : ℕ × ℕ). x.1) same in
    let ih = rejoined g ls ts (same_tail (levels_pair l) (triplet_levels t) (map levels_pair ls) (map triplet_levels ts) e) k.1 in
    let more = rejoins_more g t.repetition t.definition t.value ls ts (t.definition == g) refl k.0 ih in
    let vs = value_list t.value ++ present_values ts in (
      ap₂ (λ (i j : ℕ). if j == g then triplet i j (first_of vs) ∷ joined g ls (drop 1 vs) else triplet i j None ∷ joined g ls vs) r d ∙ more.0,
      ap (λ (j : ℕ). if j == g then suc (present g ls) else present g ls) d ∙ more.1,
    )

-- of columns that are lent
pub lent_rejoined : (t : Triplets) (g : ℕ) (ls : List Levels) (vs : List Value) → g ≡ t.column.now.greatest → map levels_pair ls ≡ map triplet_levels (triplets_view t) → vs ≡ present_values (triplets_view t)
    → (joined g ls vs ≡ triplets_view t) × (present g ls ≡ length vs)
lent_rejoined t g ls vs e h v =
    let k = rejoined g ls (triplets_view t) h (dense_triplets t g e) in
    (ap (joined g ls) v ∙ k.0, k.1 ∙ ap length (sym v))

-- ---- triplets are passed

pub passed_on : (all : List Triplet) (passed begun count records : ℕ) → passed ≤ length all → begun ≡ starts (drop passed all) → CanPass (drop passed all) count records
    → (passed + count ≤ length all) × (records ≤ begun) × (begun - records ≡ starts (drop (passed + count) all))
passed_on all passed begun count records h e c =
    let n = length-drop passed all in
    let rest = drop passed all in
    let a : starts rest ≡ starts (take count rest) + starts (drop count rest) = ap starts (sym (take-append-drop count rest)) ∙ starts_append (take count rest) (drop count rest) in
    let b : starts (drop count rest) ≡ starts (drop (passed + count) all) = ap starts (drop-drop count passed all) in (
      omega (arith, h, n, c.0),
      omega (arith, e, a, c.1),
      omega (arith, e, a, b, c.1),
    )

-- ---- triplets are lent, and more joins them

starts_most : (ts : List Triplet) → starts ts ≤ length ts
starts_most [] = omega arith
starts_most (t ∷ ts) = by_first (t.repetition == 0) (starts ts) (length ts) (starts_most ts)
  where
    by_first : (b : Bool) (m n : ℕ) → m ≤ n → (if b then 1 else 0) + m ≤ suc n
    by_first true m n h = omega (arith, h)
    by_first false m n h = omega (arith, h)

-- records that begin in the first so many and in the others
pub starts_of_both : (all : List Triplet) (count records more : ℕ) → CanPass all count records → more ≡ starts (drop count all) → (records + more ≡ starts all) × (records + more ≤ length all)
starts_of_both all count records more c e =
    let a : starts all ≡ starts (take count all) + starts (drop count all) = ap starts (sym (take-append-drop count all)) ∙ starts_append (take count all) (drop count all) in (
      omega (arith, a, c.1, e),
      omega (arith, a, c.1, e, starts_most all),
    )

-- what is kept of triplets can be passed where more joined them
pub kept_of_more : (ts more all : List Triplet) (k : Kept) → IsKept ts k → all ≡ ts ++ more → CanPass all k.triplets k.begun
kept_of_more ts more all k h e =
    let n : length all ≡ length ts + length more = ap length e ∙ length-append ts more in
    let front : take k.triplets all ≡ ts = ap₂ (λ (m : ℕ) (us : List Triplet). take m us) h.0 e ∙ take-append_seam ts more in
    (omega (arith, n, h.0), ap starts front ∙ sym h.1)

-- ---- leaves by their numbers

abbrev is_over : AtHand → Bool
is_over x = x.ended

pub here_there : (xs : List AtHand) (i : ℕ) (x : AtHand) → i < length xs → x ≡ get_or xs i x → here_of xs i ≡ rest_of x
here_there xs i x h e = get_or-map rest_of xs i x [] h ∙ ap rest_of (sym e)

pub end_there : (xs : List AtHand) (i : ℕ) (x : AtHand) → i < length xs → x ≡ get_or xs i x → ends_of xs i ≡ x.ended
end_there xs i x h e = get_or-map is_over xs i x false h ∙ ap is_over (sym e)

pub whole_there : (xs : List AtHand) (i : ℕ) (x : AtHand) → i < length xs → x ≡ get_or xs i x → whole_at xs i ≡ whole_of x
whole_there xs i x h e = ap₂ (λ (b : Bool) (ts : List Triplet). whole b (starts ts)) (end_there xs i x h e) (here_there xs i x h e)

pub here_past : (xs : List AtHand) (i : ℕ) → length xs ≤ i → here_of xs i ≡ []
here_past xs i h = let n = length-map xs rest_of in get_or_past (map rest_of xs) i [] (omega (arith, h, n))

pub end_past : (xs : List AtHand) (i : ℕ) → length xs ≤ i → ends_of xs i ≡ false
end_past xs i h = let n = length-map xs is_over in get_or_past (map is_over xs) i false (omega (arith, h, n))

pub whole_begun : (b : Bool) (n : ℕ) → whole b n ≤ n
whole_begun true n = omega arith
whole_begun false n = omega arith

-- a leaf more
pub one_more : (i n : ℕ) → i < n + 1 → (i < n) ⊎ (i ≡ n)
one_more i n h = by_side (cases_lt i n)
  where
    by_side : (i < n) ⊎ (n ≤ i) → (i < n) ⊎ (i ≡ n)
    by_side (inl k) = inl k
    by_side (inr k) = inr (omega (arith, h, k))

-- ---- another in the place of one

at_same : {A B : Type 0} (f : A → B) (xs : List A) (i : ℕ) (y : A) (e : B) → i < length xs → get_or (map f (slice_set xs i y)) i e ≡ f y
at_same f [] i y e h = absurd (omega (arith, h))
at_same f (x ∷ xs) zero y e h = refl
at_same f (x ∷ xs) (suc i) y e h = at_same f xs i y e (omega (arith, h))

at_other : {A B : Type 0} (f : A → B) (xs : List A) (i j : ℕ) (y : A) (e : B) → j ≢ i → get_or (map f (slice_set xs i y)) j e ≡ get_or (map f xs) j e
at_other f [] i j y e d = refl
at_other f (x ∷ xs) zero zero y e d = absurd (d refl)
at_other f (x ∷ xs) zero (suc j) y e d = refl
at_other f (x ∷ xs) (suc i) zero y e d = refl
at_other f (x ∷ xs) (suc i) (suc j) y e d = at_other f xs i j y e (λ q. d (ap suc q))

pub here_set : (xs : List AtHand) (i : ℕ) (y : AtHand) → i < length xs → here_of (slice_set xs i y) i ≡ rest_of y
here_set xs i y h = at_same rest_of xs i y [] h

pub here_others : (xs : List AtHand) (i j : ℕ) (y : AtHand) → j ≢ i → here_of (slice_set xs i y) j ≡ here_of xs j
here_others xs i j y d = at_other rest_of xs i j y [] d

pub end_set : (xs : List AtHand) (i : ℕ) (y : AtHand) → i < length xs → ends_of (slice_set xs i y) i ≡ y.ended
end_set xs i y h = at_same is_over xs i y false h

pub end_others : (xs : List AtHand) (i j : ℕ) (y : AtHand) → j ≢ i → ends_of (slice_set xs i y) j ≡ ends_of xs j
end_others xs i j y d = at_other is_over xs i j y false d

-- ---- fronts

pub front_pushed : (cs : List Triplets) (c : Triplets) (f : ℕ → List Triplet) (P : List Triplet → List Triplet → Type 0) (n i : ℕ) → length cs ≡ n → ((j : ℕ) → j < n → P (f j) (columns_of (map triplets_view cs) j)) → P (f n) (triplets_view c)
    → i < n + 1 → P (f i) (columns_of (map triplets_view (cs ++ c ∷ [])) i)
front_pushed cs c f P n i e h k l = by_side (cases_lt i n)
  where
    m : length (map triplets_view cs) ≡ n
    m = length-map cs triplets_view ∙ e

    more : columns_of (map triplets_view (cs ++ c ∷ [])) i ≡ columns_of (map triplets_view cs ++ triplets_view c ∷ []) i
    more = ap (λ (ts : List (List Triplet)). columns_of ts i) (map_push triplets_view cs c)

    by_side : (i < n) ⊎ (n ≤ i) → P (f i) (columns_of (map triplets_view (cs ++ c ∷ [])) i)
    by_side (inl z) = subst (P (f i)) (sym (more ∙ get_or_append_left (map triplets_view cs) (triplets_view c ∷ []) [] i (omega (arith, m, z)))) (h i z)
    by_side (inr z) =
        let is : n ≡ i = omega (arith, l, z) in
        subst (P (f i)) (sym (more ∙ get_or_push (map triplets_view cs) (triplets_view c) [] i (m ∙ is))) (subst (λ (j : ℕ). P (f j) (triplets_view c)) is k)

-- ---- the least of whole records

abbrev IsReached : List AtHand → ℕ → ℕ → Type 0
IsReached xs most least = (least ≡ most) ⊎ ((i : ℕ) × (i < length xs) × (whole_at xs i ≡ least))

pub least_more : (xs : List AtHand) (most least at n now : ℕ) → at < length xs → whole_at xs at ≡ n → now ≡ min least n → least ≤ most → ((i : ℕ) → i < at → least ≤ whole_at xs i) → IsReached xs most least
    → (now ≤ most) × ((i : ℕ) → i < at + 1 → now ≤ whole_at xs i) × IsReached xs most now
least_more xs most least at n now h w m a e r = (omega (arith, a, low.0), each, reached (cases_lt n least))
  where
    low : (now ≤ least) × (now ≤ n)
    low = (omega (arith, m), omega (arith, m))

    each : (i : ℕ) → i < at + 1 → now ≤ whole_at xs i
    each i l = by_place (one_more i at l)
      where
        by_place : (i < at) ⊎ (i ≡ at) → now ≤ whole_at xs i
        by_place (inl k) = let b = e i k in omega (arith, b, low.0)
        by_place (inr k) = let b : whole_at xs i ≡ n = ap (whole_at xs) k ∙ w in omega (arith, b, low.1)

    reached : (n < least) ⊎ (least ≤ n) → IsReached xs most now
    reached (inl k) = inr (at, h, w ∙ omega (arith, m, k))
    reached (inr k) = subst (IsReached xs most) (omega (arith, m, k)) r

-- ---- a leaf that is passed

pub passed_more : (old now : List AtHand) (counts : List ℕ) (at n : ℕ) (x y : AtHand) → at < length now → x ≡ get_or now at x → n ≡ get_or counts at 0 → rest_of y ≡ drop n (rest_of x) → y.ended ≡ x.ended
    → ((i : ℕ) → i < at → here_of now i ≡ drop (get_or counts i 0) (here_of old i)) → ((i : ℕ) → at ≤ i → here_of now i ≡ here_of old i) → ((i : ℕ) → ends_of now i ≡ ends_of old i)
    → ((i : ℕ) → i < at + 1 → here_of (slice_set now at y) i ≡ drop (get_or counts i 0) (here_of old i)) × ((i : ℕ) → at + 1 ≤ i → here_of (slice_set now at y) i ≡ here_of old i) × ((i : ℕ) → ends_of (slice_set now at y) i ≡ ends_of old i)
passed_more old now counts at n x y h is so_many rest ended before behind ends = (first, later, last)
  where
    was : rest_of x ≡ here_of old at
    was = sym (here_there now at x h is) ∙ behind at (omega arith)

    first : (i : ℕ) → i < at + 1 → here_of (slice_set now at y) i ≡ drop (get_or counts i 0) (here_of old i)
    first i l = by_place (one_more i at l)
      where
        by_place : (i < at) ⊎ (i ≡ at) → here_of (slice_set now at y) i ≡ drop (get_or counts i 0) (here_of old i)
        by_place (inl b) = here_others now at i y (λ e. let f : 1 ≤ 0 = omega (arith, b, e) in absurd (omega (arith, f))) ∙ before i b
        by_place (inr b) = subst (λ (j : ℕ). here_of (slice_set now at y) j ≡ drop (get_or counts j 0) (here_of old j)) (sym b)
            (here_set now at y h ∙ rest ∙ ap₂ (λ (m : ℕ) (ts : List Triplet). drop m ts) so_many was)

    later : (i : ℕ) → at + 1 ≤ i → here_of (slice_set now at y) i ≡ here_of old i
    later i l = here_others now at i y (λ e. let f : 1 ≤ 0 = omega (arith, l, e) in absurd (omega (arith, f))) ∙ behind i (omega (arith, l))

    last : (i : ℕ) → ends_of (slice_set now at y) i ≡ ends_of old i
    last i = by_place (cases_lt i at) (cases_lt at i)
      where
        others : i ≢ at → ends_of (slice_set now at y) i ≡ ends_of old i
        others d = end_others now at i y d ∙ ends i

        here : i ≡ at → ends_of (slice_set now at y) i ≡ ends_of old i
        here e = subst (λ (j : ℕ). ends_of (slice_set now at y) j ≡ ends_of old j) (sym e) (end_set now at y h ∙ ended ∙ sym (end_there now at x h is) ∙ ends at)

        by_place : (i < at) ⊎ (at ≤ i) → (at < i) ⊎ (i ≤ at) → ends_of (slice_set now at y) i ≡ ends_of old i
        by_place (inl a) b = others (λ e. let f : 1 ≤ 0 = omega (arith, a, e) in absurd (omega (arith, f)))
        by_place (inr a) (inl b) = others (λ e. let f : 1 ≤ 0 = omega (arith, b, e) in absurd (omega (arith, f)))
        by_place (inr a) (inr b) = here (omega (arith, a, b))

-- what is left of each is passed
pub passed_all : (old now : List AtHand) (counts : List ℕ) (at : ℕ) → length now ≡ length old → length old ≤ at → ((i : ℕ) → i < at → here_of now i ≡ drop (get_or counts i 0) (here_of old i)) → (i : ℕ) → here_of now i ≡ drop (get_or counts i 0) (here_of old i)
passed_all old now counts at n m before i = by_place (cases_lt i (length old))
  where
    none : List Triplet
    none = []

    drop_none : (k : ℕ) → none ≡ drop k none
    drop_none zero = refl
    drop_none (suc k) = refl

    by_place : (i < length old) ⊎ (length old ≤ i) → here_of now i ≡ drop (get_or counts i 0) (here_of old i)
    by_place (inl k) = before i (omega (arith, k, m))
    by_place (inr k) = here_past now i (omega (arith, k, n)) ∙ (drop_none (get_or counts i 0) ∙ ap (λ (ts : List Triplet). drop (get_or counts i 0) ts) (sym (here_past old i k)))
