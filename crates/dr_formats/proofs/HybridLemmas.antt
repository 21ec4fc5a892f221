-- Hybrid data that is written is read back.
use Rattle.std.proofs.Common.{◌≡◌, ℕ, zero, suc, ◌+◌, ◌*◌, ◌/◌, ◌%◌, ◌^◌, ◌≤◌, ◌<◌, List, [], ◌∷◌, ◌++◌, length, take, drop, Bool, true, false, refl, sym, ap, ap₂, ◌∙◌, subst, arith, append_assoc, ◌⊎◌, inl, inr}
use Rattle.std.specs.Prelude.{◌-◌, min, replicate, nat_lt, nat_le, ◌||◌, ◌==◌, if◌then◌else◌}
use Rattle.std.proofs.lemmas.Bool.{ltb-true, and_parts, eqb-true, leb-true, leb-false, or_cases, and_from}
use Rattle.std.proofs.Math.Nat.{min-eq_left, min-eq_right, mul-le-mul_right}
use Rattle.std.proofs.lemmas.List.{length-append, length-drop, length-take, length-replicate, take-append-drop, take_all, append-nil}
use Rattle.std.proofs.Math.Pow.{pow_mono}
use Rattle.std.proofs.Math.Seq.{drop-nil}
use Rattle.dr_formats.specs.Reading.{got}
use Rattle.dr_formats.specs.Varint.{varint, varint_bytes}
use Rattle.dr_formats.specs.LittleEndian.{little_endian_bytes, packed, bytes_for}
use Rattle.dr_formats.specs.Hybrid.{short, packed_run, run, runs, values_read, hybrid, equal_front, WrittenRun, repeat_of, group_of, runs_behind, hybrid_bytes}
use Rattle.dr_formats.specs.HybridLaws.{WrittenRunsAreRead}
use Rattle.dr_formats.proofs.ReadingLemmas.{spells_bytes}
use Rattle.dr_formats.proofs.VarintLemmas.{spells_varint, varint_has_byte, varint_length}
use Rattle.dr_formats.proofs.LittleEndianLemmas.{length_little_endian, little_endian_back, fewer_bytes, are_below, unpacked_bytes}

-- ---- one run read

-- a header, a run and the runs behind it
pub one_run : (k w n h : ℕ) (us more left b c d : List ℕ) → varint short short b ≡ got h c → run w (suc n) h c ≡ got us d → runs k w (suc n - length us) d ≡ got more left → runs (suc k) w (suc n) b ≡ got (us ++ more) left
one_run k w n h us more left b c d e f g = rw (e, f, g) refl

whole_bytes : (w v : ℕ) → v < 2 ^ w → v < 2 ^ (8 * bytes_for w)
whole_bytes w v h =
    let l : w ≤ 8 * bytes_for w = omega arith in
    omega (arith, h, pow_mono l)

-- a repeat of m of the n values
repeat_reads : (w m n v : ℕ) (d : List ℕ) → v < 2 ^ w → m ≤ n → run w n (2 * m) (little_endian_bytes (bytes_for w) v ++ d) ≡ got (replicate m v) d
repeat_reads w m n v d h l =
    let e : 2 * m % 2 ≡ 0 = omega arith in
    let f : 2 * m / 2 ≡ m = omega arith in
    rw (e, f, spells_bytes short (bytes_for w) (little_endian_bytes (bytes_for w) v) (length_little_endian (bytes_for w) v) d, min-eq_left l, little_endian_back (bytes_for w) v (whole_bytes w v h)) refl

-- a group of which these values are wanted, from the bytes that they need
group_reads : (w n : ℕ) (us d : List ℕ) → are_below w us ≡ true → min (8 * 1) n ≡ length us → packed_run w 1 n (little_endian_bytes (bytes_for (length us * w)) (packed w us) ++ d) ≡ got us d
group_reads w n us d h e =
    let l : w * length us ≤ 8 * bytes_for (length us * w) = omega arith in
    rw (e, spells_bytes short (bytes_for (length us * w)) (little_endian_bytes (bytes_for (length us * w)) (packed w us)) (length_little_endian (bytes_for (length us * w)) (packed w us)) d, unpacked_bytes w (bytes_for (length us * w)) us h l) refl

-- ---- what comes behind the first values

behind_dropped : (w k : ℕ) (vs : List ℕ) → runs_behind w k vs ≡ runs_behind w 0 (drop k vs)
behind_dropped w k [] = rw drop-nil refl
behind_dropped w zero (v ∷ vs) = refl
behind_dropped w (suc k) (v ∷ vs) = behind_dropped w k vs

below_dropped : (w k : ℕ) (vs : List ℕ) → are_below w vs ≡ true → are_below w (drop k vs) ≡ true
below_dropped w k [] h = rw drop-nil refl
below_dropped w zero (v ∷ vs) h = h
below_dropped w (suc k) (v ∷ vs) h = below_dropped w k vs (and_parts _ _ h).1

below_taken : (w k : ℕ) (vs : List ℕ) → are_below w vs ≡ true → are_below w (take k vs) ≡ true
below_taken w zero vs h = refl
below_taken w (suc k) [] h = refl
below_taken w (suc k) (v ∷ vs) h = let p : (nat_lt v (2 ^ w) ≡ true) × (are_below w vs ≡ true) = and_parts _ _ h in and_from _ _ p.0 (below_taken w k vs p.1)

-- the equal values at the front, and the others
abbrev FrontEquals : ℕ → ℕ → List ℕ → Type 0
FrontEquals v k vs = (replicate k v ++ drop k vs ≡ vs) × (k ≤ length vs)

equal_step : (v x : ℕ) (xs : List ℕ) (b : Bool) → (x == v) ≡ b → FrontEquals v (equal_front v xs) xs → FrontEquals v (if b then suc (equal_front v xs) else 0) (x ∷ xs)
equal_step v x xs true e h = (ap₂ (λ y ys. y ∷ ys) (sym (eqb-true x v e)) h.0, omega (arith, h.1))
equal_step v x xs false e h = (refl, omega arith)

front_equals : (v : ℕ) (vs : List ℕ) → FrontEquals v (equal_front v vs) vs
front_equals v [] = (refl, omega arith)
front_equals v (x ∷ xs) = equal_step v x xs (x == v) refl (front_equals v xs)

-- ---- all runs

-- as many runs as bytes are enough to read the values back
abbrev ReadBack : ℕ → ℕ → List ℕ → List ℕ → Type 0
ReadBack w k vs bytes = (left : List ℕ) × (runs k w (length vs) bytes ≡ got vs left)

repeat_back : (w k m v : ℕ) (vs rest : List ℕ) → v < 2 ^ w → FrontEquals v m vs → suc m < 2 ^ 63 → ReadBack w k (drop m vs) (runs_behind w m vs ++ rest) → ReadBack w (suc k) (v ∷ vs) (((repeat_of w (suc m) v).bytes ++ runs_behind w m vs) ++ rest)
repeat_back w k m v vs rest h f l r =
    let n : ℕ = length vs in
    let c : List ℕ = little_endian_bytes (bytes_for w) v in
    let d : List ℕ = runs_behind w m vs ++ rest in
    let e0 : ((repeat_of w (suc m) v).bytes ++ runs_behind w m vs) ++ rest ≡ varint_bytes (2 * suc m) ++ (c ++ d) = append_assoc (varint_bytes (2 * suc m) ++ c) (runs_behind w m vs) rest ∙ append_assoc (varint_bytes (2 * suc m)) c d in
    let e1 : varint short short (varint_bytes (2 * suc m) ++ (c ++ d)) ≡ got (2 * suc m) (c ++ d) = spells_varint short short (2 * suc m) (omega (arith, l)) (c ++ d) in
    let e2 : run w (suc n) (2 * suc m) (c ++ d) ≡ got (replicate (suc m) v) d = repeat_reads w (suc m) (suc n) v d h (omega (arith, f.1)) in
    let e3 : suc n - length (replicate (suc m) v) ≡ length (drop m vs) = omega (arith, length-replicate (suc m) v, length-drop m vs) in
    let e4 : runs k w (suc n - length (replicate (suc m) v)) d ≡ got (drop m vs) r.0 = rw e3 r.1 in
    (r.0, rw e0 (one_run k w n (2 * suc m) (replicate (suc m) v) (drop m vs) r.0 (varint_bytes (2 * suc m) ++ (c ++ d)) (c ++ d) d e1 e2 e4 ∙ ap (λ y. got (v ∷ y) r.0) f.0))

-- a group of eight values of which all are wanted
full_group : (w k v : ℕ) (vs rest : List ℕ) → are_below w (v ∷ vs) ≡ true → 7 ≤ length vs → ReadBack w k (drop 7 vs) (runs_behind w 7 vs ++ rest) → ReadBack w (suc k) (v ∷ vs) (((group_of w (v ∷ vs)).bytes ++ runs_behind w 7 vs) ++ rest)
full_group w k v vs rest h l r =
    let n : ℕ = length vs in
    let us : List ℕ = v ∷ take 7 vs in
    let c : List ℕ = little_endian_bytes w (packed w us) in
    let d : List ℕ = runs_behind w 7 vs ++ rest in
    let m : length us ≡ 8 = omega (arith, length-take 7 vs, min-eq_left l) in
    let g : min (8 * 1) (suc n) ≡ length us = omega (arith, m, l) in
    let o : bytes_for (length us * w) ≡ w = rw m (omega arith) in
    let e0 : ((group_of w (v ∷ vs)).bytes ++ runs_behind w 7 vs) ++ rest ≡ (3 ∷ []) ++ (c ++ d) = ap (λ y. 3 ∷ y) (append_assoc c (runs_behind w 7 vs) rest) in
    let e1 : varint short short ((3 ∷ []) ++ (c ++ d)) ≡ got 3 (c ++ d) = refl in
    let e2 : packed_run w 1 (suc n) (little_endian_bytes (bytes_for (length us * w)) (packed w us) ++ d) ≡ got us d = group_reads w (suc n) us d (below_taken w 8 (v ∷ vs) h) g in
    let e3 : run w (suc n) 3 (c ++ d) ≡ got us d = rw o at e2 in
    let e4 : suc n - length us ≡ length (drop 7 vs) = omega (arith, m, length-drop 7 vs) in
    let e5 : runs k w (suc n - length us) d ≡ got (drop 7 vs) r.0 = rw e4 r.1 in
    (r.0, ap (runs (suc k) w (suc n)) e0 ∙ (one_run k w n 3 us (drop 7 vs) r.0 ((3 ∷ []) ++ (c ++ d)) (c ++ d) d e1 e3 e5 ∙ ap (λ y. got (v ∷ y) r.0) (take-append-drop 7 vs)))

-- a group of fewer than eight wanted values is the last run
last_group : (w k v : ℕ) (vs rest : List ℕ) → are_below w (v ∷ vs) ≡ true → length vs < 7 → ReadBack w (suc k) (v ∷ vs) (((group_of w (v ∷ vs)).bytes ++ runs_behind w 7 vs) ++ rest)
last_group w k v vs rest h l =
    let n : ℕ = length vs in
    let us : List ℕ = v ∷ vs in
    let t : take 7 vs ≡ vs = take_all 7 vs (omega (arith, l)) in
    let c : ℕ = bytes_for (length us * w) in
    let i : length us * w ≤ 8 * w = mul-le-mul_right w (omega (arith, l)) in
    let more = fewer_bytes c w (packed w us) (omega (arith, i)) in
    let b : List ℕ = little_endian_bytes c (packed w us) in
    let d : List ℕ = more.0 ++ (runs_behind w 7 vs ++ rest) in
    let g : min (8 * 1) (suc n) ≡ length us = min-eq_right (omega (arith, l)) in
    let e0 : ((3 ∷ little_endian_bytes w (packed w us)) ++ runs_behind w 7 vs) ++ rest ≡ (3 ∷ []) ++ (b ++ d) = ap (λ y. 3 ∷ y) (append_assoc (little_endian_bytes w (packed w us)) (runs_behind w 7 vs) rest ∙ (ap (λ y. y ++ (runs_behind w 7 vs ++ rest)) more.1 ∙ append_assoc b more.0 (runs_behind w 7 vs ++ rest))) in
    let e1 : varint short short ((3 ∷ []) ++ (b ++ d)) ≡ got 3 (b ++ d) = refl in
    let e2 : run w (suc n) 3 (b ++ d) ≡ got us d = group_reads w (suc n) us d h g in
    let e4 : suc n - length us ≡ 0 = omega arith in
    let e5 : runs k w (suc n - length us) d ≡ got [] d = rw e4 refl in
    (d, ap (λ z. runs (suc k) w (suc n) (((3 ∷ little_endian_bytes w (packed w (v ∷ z))) ++ runs_behind w 7 vs) ++ rest)) t ∙ (ap (runs (suc k) w (suc n)) e0 ∙ (one_run k w n 3 us [] d ((3 ∷ []) ++ (b ++ d)) (b ++ d) d e1 e2 e5 ∙ ap (λ y. got y d) (append-nil us))))

abbrev Back : ℕ → ℕ → Type 0
Back w j = (vs : List ℕ) → length vs ≤ j → are_below w vs ≡ true → length vs < 2 ^ 63 → (k : ℕ) → length (runs_behind w 0 vs) ≤ k → (rest : List ℕ) → ReadBack w k vs (runs_behind w 0 vs ++ rest)

-- the next run, by whether it is a repeat
abbrev run_by : Bool → ℕ → ℕ → ℕ → List ℕ → WrittenRun
run_by b w m v vs = if b then repeat_of w m v else group_of w vs

next_back : (w k v : ℕ) (vs rest : List ℕ) (b : Bool) → are_below w (v ∷ vs) ≡ true → length (v ∷ vs) < 2 ^ 63
    → ReadBack w k (drop ((run_by b w (suc (equal_front v vs)) v (v ∷ vs)).taken - 1) vs) (runs_behind w ((run_by b w (suc (equal_front v vs)) v (v ∷ vs)).taken - 1) vs ++ rest)
    → ReadBack w (suc k) (v ∷ vs) (((run_by b w (suc (equal_front v vs)) v (v ∷ vs)).bytes ++ runs_behind w ((run_by b w (suc (equal_front v vs)) v (v ∷ vs)).taken - 1) vs) ++ rest)
next_back w k v vs rest true h l r =
    let p : (nat_lt v (2 ^ w) ≡ true) × (are_below w vs ≡ true) = and_parts _ _ h in
    let f : FrontEquals v (equal_front v vs) vs = front_equals v vs in
    let i : suc (equal_front v vs) - 1 ≡ equal_front v vs = omega arith in
    rw i (repeat_back w k (equal_front v vs) v vs rest (ltb-true _ _ p.0) f (omega (arith, f.1, l)) (rw i at r))
next_back w k v vs rest false h l r = by (nat_le 7 (length vs)) refl
  where
    by : (c : Bool) → nat_le 7 (length vs) ≡ c → ReadBack w (suc k) (v ∷ vs) (((group_of w (v ∷ vs)).bytes ++ runs_behind w 7 vs) ++ rest)
    by true f = full_group w k v vs rest h (leb-true _ _ f) r
    by false f = last_group w k v vs rest h (leb-false _ _ f)

-- each run has a byte
run_has_byte : (w m v : ℕ) (vs : List ℕ) (b : Bool) → 1 ≤ length (run_by b w m v vs).bytes
run_has_byte w m v vs true = omega (arith, length-append (varint_bytes (2 * m)) (little_endian_bytes (bytes_for w) v), varint_has_byte 9 (2 * m))
run_has_byte w m v vs false = omega arith

all_later : (w j v : ℕ) (vs : List ℕ) (b : Bool) → Back w j → length vs ≤ j → are_below w (v ∷ vs) ≡ true → length (v ∷ vs) < 2 ^ 63 → (k : ℕ) → length ((run_by b w (suc (equal_front v vs)) v (v ∷ vs)).bytes ++ runs_behind w ((run_by b w (suc (equal_front v vs)) v (v ∷ vs)).taken - 1) vs) ≤ k → (rest : List ℕ) → ReadBack w k (v ∷ vs) (((run_by b w (suc (equal_front v vs)) v (v ∷ vs)).bytes ++ runs_behind w ((run_by b w (suc (equal_front v vs)) v (v ∷ vs)).taken - 1) vs) ++ rest)
all_later w j v vs b back l h s zero c rest = absurd (omega (arith, c, length-append (run_by b w (suc (equal_front v vs)) v (v ∷ vs)).bytes (runs_behind w ((run_by b w (suc (equal_front v vs)) v (v ∷ vs)).taken - 1) vs), run_has_byte w (suc (equal_front v vs)) v (v ∷ vs) b))
all_later w j v vs b back l h s (suc k) c rest =
    let m : ℕ = (run_by b w (suc (equal_front v vs)) v (v ∷ vs)).taken - 1 in
    let e : runs_behind w m vs ≡ runs_behind w 0 (drop m vs) = behind_dropped w m vs in
    let c1 : length (runs_behind w m vs) ≤ k = omega (arith, c, length-append (run_by b w (suc (equal_front v vs)) v (v ∷ vs)).bytes (runs_behind w m vs), run_has_byte w (suc (equal_front v vs)) v (v ∷ vs) b) in
    let c2 : length (runs_behind w 0 (drop m vs)) ≤ k = subst (λ (x : List ℕ). length x ≤ k) e c1 in
    let r : ReadBack w k (drop m vs) (runs_behind w 0 (drop m vs) ++ rest) = back (drop m vs) (omega (arith, l, length-drop m vs)) (below_dropped w m vs (and_parts _ _ h).1) (omega (arith, s, length-drop m vs)) k c2 rest in
    next_back w k v vs rest b h s (subst (λ (x : List ℕ). ReadBack w k (drop m vs) (x ++ rest)) (sym e) r)

all_back : (w j : ℕ) → Back w j
all_back w j [] l h s k c rest = (rest, refl)
all_back w zero (v ∷ vs) l h s k c rest = absurd (omega (arith, l))
all_back w (suc j) (v ∷ vs) l h s k c rest = all_later w j v vs (nat_le 8 (suc (equal_front v vs)) || (suc (equal_front v vs) == length (v ∷ vs))) (all_back w j) (omega (arith, l)) h s k c rest

pub written_runs_are_read : WrittenRunsAreRead
unfolding hybrid hybrid_bytes
written_runs_are_read w vs rest h l =
    let r = all_back w (length vs) vs (omega arith) h l (length (runs_behind w 0 vs ++ rest)) (omega (arith, length-append (runs_behind w 0 vs) rest)) rest in
    ap values_read r.1

-- ---- how many bytes are written

-- as many bytes as values, and seven more, unless there are no values
abbrev spare : List ℕ → ℕ
spare [] = 0
spare (x ∷ xs) = suc (length xs) + 7

with_later : (us : List ℕ) (b r t l : ℕ) → b ≤ 7 → r ≤ spare us → length us ≡ l - (t - 1) → (0 < length us → b ≤ t) → b + r ≤ suc l + 7
with_later [] b r t l h k e f = omega (arith, h, k)
with_later (x ∷ us) b r t l h k e f =
    let g : b ≤ t = f (omega arith) in
    omega (arith, h, k, e, g)

-- the next run, where it isn't the last, has no more bytes than values
repeat_length : (w m v : ℕ) → w ≤ 6 → m < 2 ^ 31 → length (repeat_of w m v).bytes ≤ 6
repeat_length w m v h l = omega (arith, length-append (varint_bytes (2 * m)) (little_endian_bytes (bytes_for w) v), varint_length 9 4 (2 * m) (omega (arith, l)), length_little_endian (bytes_for w) v, h)

next_length : (w v : ℕ) (vs : List ℕ) (b : Bool) → (nat_le 8 (suc (equal_front v vs)) || (suc (equal_front v vs) == length (v ∷ vs))) ≡ b → w ≤ 6 → length (v ∷ vs) < 2 ^ 31
    → (length (run_by b w (suc (equal_front v vs)) v (v ∷ vs)).bytes ≤ 7) × (0 < length (drop ((run_by b w (suc (equal_front v vs)) v (v ∷ vs)).taken - 1) vs) → length (run_by b w (suc (equal_front v vs)) v (v ∷ vs)).bytes ≤ (run_by b w (suc (equal_front v vs)) v (v ∷ vs)).taken)
next_length w v vs true e h l =
    let f : FrontEquals v (equal_front v vs) vs = front_equals v vs in
    let r : length (repeat_of w (suc (equal_front v vs)) v).bytes ≤ 6 = repeat_length w (suc (equal_front v vs)) v h (omega (arith, f.1, l)) in
    (omega (arith, r), λ k. by_case r k (or_cases _ _ e))
  where
    by_case : length (repeat_of w (suc (equal_front v vs)) v).bytes ≤ 6 → 0 < length (drop (suc (equal_front v vs) - 1) vs) → (nat_le 8 (suc (equal_front v vs)) ≡ true) ⊎ ((suc (equal_front v vs) == length (v ∷ vs)) ≡ true) → length (repeat_of w (suc (equal_front v vs)) v).bytes ≤ suc (equal_front v vs)
    by_case r k (inl g) = omega (arith, r, leb-true _ _ g)
    by_case r k (inr g) = absurd (omega (arith, k, length-drop (suc (equal_front v vs) - 1) vs, eqb-true _ _ g))
next_length w v vs false e h l =
    let r : length (group_of w (v ∷ vs)).bytes ≤ 7 = omega (arith, length_little_endian w (packed w (take 8 (v ∷ vs))), h) in
    (r, λ k. omega (arith, r))

abbrev Short : ℕ → ℕ → Type 0
Short w j = (vs : List ℕ) → length vs ≤ j → length vs < 2 ^ 31 → length (runs_behind w 0 vs) ≤ spare vs

later_length : (w j v : ℕ) (vs : List ℕ) (b : Bool) → (nat_le 8 (suc (equal_front v vs)) || (suc (equal_front v vs) == length (v ∷ vs))) ≡ b → w ≤ 6 → Short w j → length vs ≤ j → length (v ∷ vs) < 2 ^ 31 → length ((run_by b w (suc (equal_front v vs)) v (v ∷ vs)).bytes ++ runs_behind w ((run_by b w (suc (equal_front v vs)) v (v ∷ vs)).taken - 1) vs) ≤ suc (length vs) + 7
later_length w j v vs b e h s l k =
    let t : ℕ = (run_by b w (suc (equal_front v vs)) v (v ∷ vs)).taken in
    let c : List ℕ = (run_by b w (suc (equal_front v vs)) v (v ∷ vs)).bytes in
    let n = next_length w v vs b e h k in
    let r1 : length (runs_behind w 0 (drop (t - 1) vs)) ≤ spare (drop (t - 1) vs) = s (drop (t - 1) vs) (omega (arith, l, length-drop (t - 1) vs)) (omega (arith, k, length-drop (t - 1) vs)) in
    let r2 : length (runs_behind w (t - 1) vs) ≤ spare (drop (t - 1) vs) = subst (λ (x : List ℕ). length x ≤ spare (drop (t - 1) vs)) (sym (behind_dropped w (t - 1) vs)) r1 in
    let q : length c + length (runs_behind w (t - 1) vs) ≤ suc (length vs) + 7 = with_later (drop (t - 1) vs) (length c) (length (runs_behind w (t - 1) vs)) t (length vs) n.0 r2 (length-drop (t - 1) vs) n.1 in
    omega (arith, q, length-append c (runs_behind w (t - 1) vs))

all_short : (w j : ℕ) → w ≤ 6 → Short w j
all_short w j h [] l k = omega arith
all_short w zero h (v ∷ vs) l k = absurd (omega (arith, l))
all_short w (suc j) h (v ∷ vs) l k = later_length w j v vs (nat_le 8 (suc (equal_front v vs)) || (suc (equal_front v vs) == length (v ∷ vs))) refl h (all_short w j h) (omega (arith, l)) k

spare_fits : (vs : List ℕ) → spare vs ≤ length vs + 7
spare_fits [] = omega arith
spare_fits (v ∷ vs) = omega arith

pub hybrid_length : (w : ℕ) (vs : List ℕ) → w ≤ 6 → length vs < 2 ^ 31 → length (hybrid_bytes w vs) < 2 ^ 32
unfolding hybrid_bytes
hybrid_length w vs h l = omega (arith, all_short w (length vs) h vs (omega arith) l, spare_fits vs, l)

pub hybrid_short : (w : ℕ) (vs : List ℕ) → w ≤ 6 → length vs < 2 ^ 31 → length (hybrid_bytes w vs) ≤ length vs + 7
unfolding hybrid_bytes
hybrid_short w vs h l = omega (arith, all_short w (length vs) h vs (omega arith) l, spare_fits vs)
