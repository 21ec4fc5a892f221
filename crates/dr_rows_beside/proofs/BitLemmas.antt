-- Bits of a condition, one after another.
use Rattle.std.proofs.Common.{◌≡◌, ℕ, zero, suc, ◌+◌, ◌-◌, ◌<◌, ◌≤◌, List, [], ◌∷◌, ◌++◌, length, take, drop, get_or, Bool, true, false, ◌&&◌, refl, sym, ap, ap₂, ◌∙◌, subst, true≢false, arith, add-one}
use Rattle.std.specs.Prelude.{◌||◌, nat_le, if◌then◌else◌, replicate, slice_set}
use Rattle.std.proofs.lemmas.Bool.{le-leb, eqb-true}
use Rattle.std.proofs.lemmas.List.{append_assoc}
use Rattle.dr_meaning.specs.Column.{Triplet}
use Rattle.dr_beside.specs.Sifting.{any_until}
use Rattle.dr_beside.specs.Spreading.{repetitions_of, next_of, rest_of, spread_over}
use Rattle.dr_agreement.specs.Cuts.{begins}
use Rattle.dr_rows_beside.specs.Bits.{many, each_and, any_bit, gathered, GathersBits}

-- ---- lists

set_taken : (xs : List Bool) (i : ℕ) (v : Bool) → i < length xs → take (suc i) (slice_set xs i v) ≡ take i xs ++ v ∷ []
set_taken [] i v h = absurd (omega (arith, h))
set_taken (x ∷ xs) zero v h = refl
set_taken (x ∷ xs) (suc i) v h = ap (λ (ys : List Bool). x ∷ ys) (set_taken xs i v (omega (arith, h)))

pub set_front : (xs : List Bool) (i : ℕ) (v : Bool) → take i (slice_set xs i v) ≡ take i xs
set_front [] i v = refl
set_front (x ∷ xs) zero v = refl
set_front (x ∷ xs) (suc i) v = ap (λ (ys : List Bool). x ∷ ys) (set_front xs i v)

pub set_dropped : (xs : List Bool) (i : ℕ) (v : Bool) → drop (suc i) (slice_set xs i v) ≡ drop (suc i) xs
set_dropped [] i v = refl
set_dropped (x ∷ xs) zero v = refl
set_dropped (x ∷ xs) (suc i) v = set_dropped xs i v

pub set_here : (xs : List Bool) (i : ℕ) (v d : Bool) → i < length xs → get_or (slice_set xs i v) i d ≡ v
set_here [] i v d h = absurd (omega (arith, h))
set_here (x ∷ xs) zero v d h = refl
set_here (x ∷ xs) (suc i) v d h = set_here xs i v d (omega (arith, h))

taken_more : (xs : List Bool) (i : ℕ) (d : Bool) → i < length xs → take (suc i) xs ≡ take i xs ++ get_or xs i d ∷ []
taken_more [] i d h = absurd (omega (arith, h))
taken_more (x ∷ xs) zero d h = refl
taken_more (x ∷ xs) (suc i) d h = ap (λ (ys : List Bool). x ∷ ys) (taken_more xs i d (omega (arith, h)))

pub dropped : {A : Type 0} (xs : List A) (i : ℕ) (d : A) → i < length xs → drop i xs ≡ get_or xs i d ∷ drop (suc i) xs
dropped [] i d h = absurd (omega (arith, h))
dropped (x ∷ xs) zero d h = refl
dropped (x ∷ xs) (suc i) d h = dropped xs i d (omega (arith, h))

none_left : {A : Type 0} (xs : List A) (i : ℕ) → length xs ≤ i → drop i xs ≡ []
none_left [] zero h = refl
none_left [] (suc i) h = refl
none_left (x ∷ xs) zero h = absurd (omega (arith, h))
none_left (x ∷ xs) (suc i) h = none_left xs i (omega (arith, h))

-- ---- bits that are narrowed

many_append : (k : ℕ) (rs ss : List ℕ) → many k (rs ++ ss) ≡ many k rs + many k ss
many_append k [] ss = omega arith
many_append k (r ∷ rs) ss = omega (arith, many_append k rs ss)

many_taken : (k : ℕ) (rs : List ℕ) (i : ℕ) → i < length rs → many k (take (suc i) rs) ≡ many k (take i rs) + (if nat_le (get_or rs i 0) k then 1 else 0)
many_taken k [] i h = absurd (omega (arith, h))
many_taken k (r ∷ rs) zero h = omega arith
many_taken k (r ∷ rs) (suc i) h = omega (arith, many_taken k rs i (omega (arith, h)))

many_most : (k : ℕ) (rs : List ℕ) (i : ℕ) → many k (take i rs) ≤ many k rs
many_most k [] zero = omega arith
many_most k [] (suc i) = omega arith
many_most k (r ∷ rs) zero = omega arith
many_most k (r ∷ rs) (suc i) = omega (arith, many_most k rs i)

pub many_within : (k : ℕ) (rs : List ℕ) (i : ℕ) → i < length rs → many k (take i rs) + (if nat_le (get_or rs i 0) k then 1 else 0) ≤ many k rs
many_within k rs i h = omega (arith, many_taken k rs i h, many_most k rs (suc i))

pub many_more : (k : ℕ) (rs : List ℕ) (i : ℕ) → i < length rs → many k (take i rs) + (if nat_le (get_or rs i 0) k then 1 else 0) ≡ many k (take (i + 1) rs)
many_more k rs i h = sym (many_taken k rs i h) ∙ ap (λ (n : ℕ). many k (take n rs)) (sym (add-one i))

-- the first level counts
pub first_counts : (k : ℕ) (rs : List ℕ) (i n : ℕ) → begins rs ≡ true → i < length rs → (0 < i → 0 < n) → 0 < n + (if nat_le (get_or rs i 0) k then 1 else 0)
first_counts k [] i n b h g = absurd (omega (arith, h))
first_counts k (r ∷ rs) zero n b h g = rw (eqb-true r 0 b, le-leb 0 k (omega arith)) (omega arith)
first_counts k (r ∷ rs) (suc i) n b h g = let p : 0 < n = g (omega arith) in omega (arith, p)

pub spread_starts : (k : ℕ) (a b : Bool) (xs : List Bool) (x : Bool) (rs : List ℕ) → begins rs ≡ true → many k rs ≤ length xs → spread_over k a xs rs ≡ spread_over k b xs rs
spread_starts k a b xs x [] h l = refl
spread_starts k a b [] x (r ∷ rs) h l =
    absurd (let z : nat_le r k ≡ true = le-leb r k (omega (arith, eqb-true r 0 h)) in let e : many k (r ∷ rs) ≡ 1 + many k rs = rw z refl in omega (arith, e, l))
spread_starts k a b (y ∷ xs) x (r ∷ rs) h l = rw (le-leb r k (omega (arith, eqb-true r 0 h))) refl

-- one more, by whether it begins an instance at the depth
narrow_by : (t : Bool) (k n m i : ℕ) (xs bs : List Bool) (b : Bool) (rs : List ℕ) → m ≡ n + (if t then 1 else 0) → 0 < m → m ≤ length xs
    → each_and (b ∷ bs) (if t then next_of (get_or xs (n - 1) false) (drop n xs) ∷ spread_over k (next_of (get_or xs (n - 1) false) (drop n xs)) (rest_of (drop n xs)) rs else get_or xs (n - 1) false ∷ spread_over k (get_or xs (n - 1) false) (drop n xs) rs)
    ≡ (b && get_or xs (m - 1) false) ∷ each_and bs (spread_over k (get_or xs (m - 1) false) (drop m xs) rs)
narrow_by true k n m i xs bs b rs e h l =
    let q : drop n xs ≡ get_or xs n false ∷ drop (suc n) xs = dropped xs n false (omega (arith, e, l)) in
    let u : m - 1 ≡ n = omega (arith, e) in
    let v : m ≡ suc n = omega (arith, e) in
    rw (u, v) (ap (λ (ys : List Bool). each_and (b ∷ bs) (next_of (get_or xs (n - 1) false) ys ∷ spread_over k (next_of (get_or xs (n - 1) false) ys) (rest_of ys) rs)) q)
narrow_by false k n m i xs bs b rs e h l = let v : n ≡ m = omega (arith, e) in rw v refl

pub narrow_step : (k n m i : ℕ) (xs bs whole : List Bool) (rs : List ℕ) → i < length rs → i < length bs → m ≡ n + (if nat_le (get_or rs i 0) k then 1 else 0) → 0 < m → m ≤ length xs
    → take i bs ++ each_and (drop i bs) (spread_over k (get_or xs (n - 1) false) (drop n xs) (drop i rs)) ≡ whole
    → take (i + 1) (slice_set bs i (get_or bs i false && get_or xs (m - 1) false)) ++ each_and (drop (i + 1) (slice_set bs i (get_or bs i false && get_or xs (m - 1) false))) (spread_over k (get_or xs (m - 1) false) (drop m xs) (drop (i + 1) rs)) ≡ whole
narrow_step k n m i xs bs whole rs h g e p l before =
    let b = get_or bs i false in
    let r = get_or rs i 0 in
    let now = get_or xs (n - 1) false in
    let v = b && get_or xs (m - 1) false in
    let rest = each_and (drop (suc i) bs) (spread_over k (get_or xs (m - 1) false) (drop m xs) (drop (suc i) rs)) in
    ap (λ (j : ℕ). take j (slice_set bs i v) ++ each_and (drop j (slice_set bs i v)) (spread_over k (get_or xs (m - 1) false) (drop m xs) (drop j rs))) (add-one i)
    ∙ ap₂ (λ (ys zs : List Bool). ys ++ each_and zs (spread_over k (get_or xs (m - 1) false) (drop m xs) (drop (suc i) rs))) (set_taken bs i v g) (set_dropped bs i v)
    ∙ append_assoc (take i bs) (v ∷ []) rest
    ∙ ap (λ (ys : List Bool). take i bs ++ ys) (sym (narrow_by (nat_le r k) k n m i xs (drop (suc i) bs) b (drop (suc i) rs) e p l))
    ∙ sym (ap₂ (λ (ys : List Bool) (zs : List ℕ). take i bs ++ each_and ys (spread_over k now (drop n xs) zs)) (dropped bs i false g) (dropped rs i 0 h))
    ∙ before

-- ---- bits that are gathered

-- the bit of the instance that is open, and those behind it
abbrev pub closed : ℕ → Bool → List ℕ → List Bool → List Bool
closed k now rs bs = (now || any_bit k rs bs) ∷ gathered k rs bs

or_false : (b : Bool) → (b || false) ≡ b
or_false true = refl
or_false false = refl

or_both : (a b c : Bool) → ((a || b) || c) ≡ (a || (b || c))
or_both true b c = refl
or_both false b c = refl

-- one more that belongs to the open one
more_by : (k r : ℕ) (now b : Bool) (rs : List ℕ) (bs : List Bool) → nat_le r k ≡ false → closed k now (r ∷ rs) (b ∷ bs) ≡ closed k (now || b) rs bs
more_by k r now b rs bs e = rw e (ap (λ (x : Bool). x ∷ gathered k rs bs) (sym (or_both now b (any_bit k rs bs))))

-- one that begins another
next_by : (k r : ℕ) (now b : Bool) (rs : List ℕ) (bs : List Bool) → nat_le r k ≡ true → closed k now (r ∷ rs) (b ∷ bs) ≡ now ∷ closed k b rs bs
next_by k r now b rs bs e = rw (e, or_false now) refl

first_by : (k r : ℕ) (b : Bool) (rs : List ℕ) (bs : List Bool) → nat_le r k ≡ true → gathered k (r ∷ rs) (b ∷ bs) ≡ closed k b rs bs
first_by k r b rs bs e = rw e refl

clear_at : (n j : ℕ) (room : List Bool) → n < length room → drop n room ≡ replicate (suc j) false → (get_or room n false ≡ false) × (drop (suc n) room ≡ replicate j false)
clear_at n j room h e =
    let q : get_or room n false ∷ drop (suc n) room ≡ false ∷ replicate j false = sym (dropped room n false h) ∙ e in
    (let a : get_or room n false ≡ false = cc in a, let b : drop (suc n) room ≡ replicate j false = cc in b)

pub none_behind : (n j : ℕ) (room : List Bool) (d : Bool) → n ≡ length room → drop n room ≡ replicate j false → j ≡ 0
none_behind n zero room d h e = refl
none_behind n (suc j) room d h e = absurd (let z : drop n room ≡ [] = none_left room n (omega (arith, h)) in let q : [] ≡ false ∷ replicate j false = sym z ∙ e in cc)

-- the room when one bit more is taken: what stays in front of the open one, the open one, and what is clear behind it
pub record Gathers (k n m i long : ℕ) (rs : List ℕ) (bs room whole : List Bool) : Type 0 where
  pub clear : drop m (slice_set room (m - 1) (get_or room (m - 1) false || get_or bs i false)) ≡ replicate (long - m) false
  pub so_far : take (m - 1) (slice_set room (m - 1) (get_or room (m - 1) false || get_or bs i false))
      ++ closed k (get_or (slice_set room (m - 1) (get_or room (m - 1) false || get_or bs i false)) (m - 1) false) (drop (i + 1) rs) (drop (i + 1) bs) ≡ whole

-- it begins an instance
gather_next : (k n i long : ℕ) (rs : List ℕ) (bs room whole : List Bool) → i < length rs → i < length bs → n < length room → length room ≡ long → nat_le (get_or rs i 0) k ≡ true
    → drop n room ≡ replicate (long - n) false → (i ≡ 0 → n ≡ 0) → (n ≡ 0 → i ≡ 0) → whole ≡ gathered k rs bs
    → (0 < n → take (n - 1) room ++ closed k (get_or room (n - 1) false) (drop i rs) (drop i bs) ≡ whole) → Gathers k n (suc n) i long rs bs room whole
gather_next k n i long rs bs room whole h g l w t clear first none all before =
    let u : suc n - 1 ≡ n = omega arith in
    let j : long - n ≡ suc (long - suc n) = omega (arith, l, w) in
    let c : (get_or room n false ≡ false) × (drop (suc n) room ≡ replicate (long - suc n) false) = clear_at n (long - suc n) room l (clear ∙ ap (λ (x : ℕ). replicate x false) j) in
    let b = get_or bs i false in
    let r = get_or rs i 0 in
    let put : slice_set room n (get_or room n false || b) ≡ slice_set room n b = ap (λ (x : Bool). slice_set room n (x || b)) c.0 in
    let made : take n (slice_set room n b) ++ closed k (get_or (slice_set room n b) n false) (drop (suc i) rs) (drop (suc i) bs) ≡ whole =
    ap₂ (λ (ys : List Bool) (x : Bool). ys ++ closed k x (drop (suc i) rs) (drop (suc i) bs)) (set_front room n b) (set_here room n b false l)
    ∙ by_none n l first none all before in
    record {
      clear = rw (u, put) (set_dropped room n b ∙ c.1);
      so_far = rw (u, put, add-one i) made;
    }
  where
    by_none : (n : ℕ) → n < length room → (i ≡ 0 → n ≡ 0) → (n ≡ 0 → i ≡ 0) → whole ≡ gathered k rs bs → (0 < n → take (n - 1) room ++ closed k (get_or room (n - 1) false) (drop i rs) (drop i bs) ≡ whole)
        → take n room ++ closed k (get_or bs i false) (drop (suc i) rs) (drop (suc i) bs) ≡ whole
    by_none zero l first none all before =
        let z : i ≡ 0 = none refl in
        sym (first_by k (get_or rs i 0) (get_or bs i false) (drop (suc i) rs) (drop (suc i) bs) t)
        ∙ ap₂ (λ (xs : List ℕ) (ys : List Bool). gathered k xs ys) (sym (dropped rs i 0 h)) (sym (dropped bs i false g))
        ∙ ap (λ (x : ℕ). gathered k (drop x rs) (drop x bs)) z
        ∙ sym all
    by_none (suc n) l first none all before =
        let e : suc n - 1 ≡ n = omega arith in
        let d : take n room ++ closed k (get_or room n false) (drop i rs) (drop i bs) ≡ whole = rw e at (before (omega arith)) in
        ap (λ (ys : List Bool). ys ++ closed k (get_or bs i false) (drop (suc i) rs) (drop (suc i) bs)) (taken_more room n false (omega (arith, l)))
        ∙ append_assoc (take n room) (get_or room n false ∷ []) (closed k (get_or bs i false) (drop (suc i) rs) (drop (suc i) bs))
        ∙ ap (λ (ys : List Bool). take n room ++ ys) (sym (next_by k (get_or rs i 0) (get_or room n false) (get_or bs i false) (drop (suc i) rs) (drop (suc i) bs) t))
        ∙ ap₂ (λ (xs : List ℕ) (ys : List Bool). take n room ++ closed k (get_or room n false) xs ys) (sym (dropped rs i 0 h)) (sym (dropped bs i false g))
        ∙ d

-- it belongs to the open one
gather_more : (k n i long : ℕ) (rs : List ℕ) (bs room whole : List Bool) → i < length rs → i < length bs → n < length room → nat_le (get_or rs i 0) k ≡ false
    → drop (suc n) room ≡ replicate (long - suc n) false
    → take n room ++ closed k (get_or room n false) (drop i rs) (drop i bs) ≡ whole → Gathers k (suc n) (suc n) i long rs bs room whole
gather_more k n i long rs bs room whole h g l t clear before =
    let u : suc n - 1 ≡ n = omega arith in
    let b = get_or bs i false in
    let now = get_or room n false in
    let made : take n (slice_set room n (now || b)) ++ closed k (get_or (slice_set room n (now || b)) n false) (drop (suc i) rs) (drop (suc i) bs) ≡ whole =
    ap₂ (λ (ys : List Bool) (x : Bool). ys ++ closed k x (drop (suc i) rs) (drop (suc i) bs)) (set_front room n (now || b)) (set_here room n (now || b) false l)
    ∙ ap (λ (ys : List Bool). take n room ++ ys) (sym (more_by k (get_or rs i 0) now b (drop (suc i) rs) (drop (suc i) bs) t))
    ∙ ap₂ (λ (xs : List ℕ) (ys : List Bool). take n room ++ closed k now xs ys) (sym (dropped rs i 0 h)) (sym (dropped bs i false g))
    ∙ before in
    record {
      clear = rw u (set_dropped room n (now || b) ∙ clear);
      so_far = rw (u, add-one i) made;
    }

-- by whether it does
gather_by : (t : Bool) (k n i long : ℕ) (rs : List ℕ) (bs room whole : List Bool) → nat_le (get_or rs i 0) k ≡ t → i < length rs → i < length bs → n ≤ i → length rs ≡ long → length room ≡ long → (0 < i → 0 < n) → begins rs ≡ true
    → drop n room ≡ replicate (long - n) false → whole ≡ gathered k rs bs
    → (0 < n → take (n - 1) room ++ closed k (get_or room (n - 1) false) (drop i rs) (drop i bs) ≡ whole) → Gathers k n (n + (if t then 1 else 0)) i long rs bs room whole
gather_by true k n i long rs bs room whole t h g few w v begun b clear all before =
    subst (λ (m : ℕ). Gathers k n m i long rs bs room whole) (sym (add-one n))
    (gather_next k n i long rs bs room whole h g (omega (arith, few, h, w, v)) v t clear (λ (z : i ≡ 0). omega (arith, z, few)) (λ (z : n ≡ 0). by_begun z i few begun) all before)
  where
    by_begun : n ≡ 0 → (i : ℕ) → n ≤ i → (0 < i → 0 < n) → i ≡ 0
    by_begun z zero few begun = refl
    by_begun z (suc i) few begun = let p : 0 < n = begun (omega arith) in absurd (omega (arith, z, p))
gather_by false k zero i long rs bs room whole t h g few w v begun b clear all before = absurd (by_first i rs t h begun b)
  where
    by_first : (i : ℕ) (rs : List ℕ) → nat_le (get_or rs i 0) k ≡ false → i < length rs → (0 < i → 0 < 0) → begins rs ≡ true → ⊥
    by_first i [] t h begun b = omega (arith, h)
    by_first zero (r ∷ rs) t h begun b = true≢false (sym (le-leb r k (omega (arith, eqb-true r 0 b))) ∙ t)
    by_first (suc i) (r ∷ rs) t h begun b = let p : 0 < 0 = begun (omega arith) in omega (arith, p)
gather_by false k (suc n) i long rs bs room whole t h g few w v begun b clear all before =
    let e : suc n - 1 ≡ n = omega arith in
    let d : take n room ++ closed k (get_or room n false) (drop i rs) (drop i bs) ≡ whole = rw e at (before (omega arith)) in
    subst (λ (m : ℕ). Gathers k (suc n) m i long rs bs room whole) (omega arith)
    (gather_more k n i long rs bs room whole h g (omega (arith, few, h, w, v)) t clear d)

pub gather_step : (k n m i long : ℕ) (rs : List ℕ) (bs room : List Bool) → m ≡ n + (if nat_le (get_or rs i 0) k then 1 else 0) → i < length rs → i < length bs → n ≤ i → length rs ≡ long → length room ≡ long → (0 < i → 0 < n) → begins rs ≡ true
    → drop n room ≡ replicate (long - n) false
    → (0 < n → take (n - 1) room ++ closed k (get_or room (n - 1) false) (drop i rs) (drop i bs) ≡ gathered k rs bs) → Gathers k n m i long rs bs room (gathered k rs bs)
gather_step k n m i long rs bs room e h g few w v begun b clear before =
    subst (λ (m : ℕ). Gathers k n m i long rs bs room (gathered k rs bs)) (sym e)
    (gather_by (nat_le (get_or rs i 0) k) k n i long rs bs room (gathered k rs bs) refl h g few w v begun b clear refl before)

pub gather_ends : (k n i : ℕ) (rs : List ℕ) (bs room : List Bool) → length rs ≤ i → length bs ≤ i → n ≤ length room → (0 < i → 0 < n) → (i ≡ 0 → n ≡ 0)
    → (0 < n → take (n - 1) room ++ closed k (get_or room (n - 1) false) (drop i rs) (drop i bs) ≡ gathered k rs bs) → take n room ≡ gathered k rs bs
gather_ends k zero zero [] bs room h g l begun first e = refl
gather_ends k zero zero (r ∷ rs) bs room h g l begun first e = absurd (omega (arith, h))
gather_ends k zero (suc i) rs bs room h g l begun first e = absurd (let p : 0 < 0 = begun (omega arith) in omega (arith, p))
gather_ends k (suc n) i rs bs room h g l begun first e =
    let u : suc n - 1 ≡ n = omega arith in
    let d : take n room ++ closed k (get_or room n false) (drop i rs) (drop i bs) ≡ gathered k rs bs = rw u at (e (omega arith)) in
    taken_more room n false (omega (arith, l))
    ∙ ap (λ (x : Bool). take n room ++ x ∷ []) (sym (or_false (get_or room n false)))
    ∙ ap₂ (λ (xs : List ℕ) (ys : List Bool). take n room ++ closed k (get_or room n false) xs ys) (sym (none_left rs i h)) (sym (none_left bs i g))
    ∙ d

-- ---- the same, of triplets

any_same : (k : ℕ) (ts : List Triplet) (bs : List Bool) → any_bit k (repetitions_of ts) bs ≡ any_until k ts bs
any_same k [] bs = refl
any_same k (t ∷ ts) [] = refl
any_same k (t ∷ ts) (b ∷ bs) = ap (λ (x : Bool). if nat_le t.repetition k then false else b || x) (any_same k ts bs)

pub gathers_bits : GathersBits
gathers_bits k [] bs = refl
gathers_bits k (t ∷ ts) [] = refl
gathers_bits k (t ∷ ts) (b ∷ bs) = ap₂ (λ (x : Bool) (xs : List Bool). if nat_le t.repetition k then (b || x) ∷ xs else xs) (any_same k ts bs) (gathers_bits k ts bs)

pub few_of : (k : ℕ) (rs : List ℕ) (i : ℕ) → many k (take i rs) ≤ i
few_of k [] zero = omega arith
few_of k [] (suc i) = omega arith
few_of k (r ∷ rs) zero = omega arith
few_of k (r ∷ rs) (suc i) = few_by (nat_le r k) (many k (take i rs)) i (few_of k rs i)
  where
    few_by : (b : Bool) (m n : ℕ) → m ≤ n → (if b then 1 else 0) + m ≤ suc n
    few_by true m n h = omega (arith, h)
    few_by false m n h = omega (arith, h)
