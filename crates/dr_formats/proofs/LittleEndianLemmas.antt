-- Numbers in bytes and packed values are read back.
use Rattle.std.proofs.Common.{◌≡◌, ℕ, zero, suc, ◌+◌, ◌*◌, ◌/◌, ◌%◌, ◌^◌, ◌≤◌, ◌<◌, List, [], ◌∷◌, ◌++◌, length, Bool, true, refl, sym, ap, ◌∙◌, arith}
use Rattle.std.specs.Prelude.{◌-◌, nat_lt}
use Rattle.std.specs.List.{list_all}
use Rattle.std.proofs.lemmas.Bool.{ltb-true, and_parts}
use Rattle.std.proofs.lemmas.Nat.{pow-add, pow_pos}
use Rattle.std.proofs.Math.Nat.{add-mul-mod_self_left, add-mul-div_left, mod-eq_of_lt, div-eq_of_lt}
use Rattle.dr_formats.specs.LittleEndian.{little_endian, little_endian_bytes, unpacked, packed}

pub length_little_endian : (k x : ℕ) → length (little_endian_bytes k x) ≡ k
length_little_endian zero x = refl
length_little_endian (suc k) x = ap suc (length_little_endian k (x / 256))

eight_more : (k : ℕ) → 2 ^ (8 * suc k) ≡ 256 * 2 ^ (8 * k)
eight_more k =
    let e : 8 * suc k ≡ 8 + 8 * k = omega arith in
    ap (λ x. 2 ^ x) e ∙ pow-add 2 8 (8 * k)

-- a number is that of its lowest bytes, and the rest above them
pub above_bytes : (k x : ℕ) → (z : ℕ) × (x ≡ little_endian (little_endian_bytes k x) + 2 ^ (8 * k) * z)
above_bytes zero x = (x, omega arith)
above_bytes (suc k) x =
    let h = above_bytes k (x / 256) in
    let l : ℕ = little_endian (little_endian_bytes k (x / 256)) in
    let e : x ≡ x % 256 + 256 * (x / 256) = omega arith in
    let f : 256 * (x / 256) ≡ 256 * (l + 2 ^ (8 * k) * h.0) = ap (λ y. 256 * y) h.1 in
    let g : 2 ^ (8 * suc k) * h.0 ≡ 256 * 2 ^ (8 * k) * h.0 = ap (λ y. y * h.0) (eight_more k) in
    (h.0, omega (arith, e, f, g))

fits_below : (p z l x : ℕ) → x ≡ l + p * z → x < p → x ≡ l
fits_below p zero l x e h = omega (arith, e)
fits_below p (suc z) l x e h = absurd (omega (arith, e, h))

pub little_endian_back : (k x : ℕ) → x < 2 ^ (8 * k) → little_endian (little_endian_bytes k x) ≡ x
little_endian_back k x h =
    let z = above_bytes k x in
    sym (fits_below (2 ^ (8 * k)) z.0 (little_endian (little_endian_bytes k x)) x z.1 h)

-- fewer bytes are a front of more
pub fewer_bytes : (c k x : ℕ) → c ≤ k → (more : List ℕ) × (little_endian_bytes k x ≡ little_endian_bytes c x ++ more)
fewer_bytes zero k x h = (little_endian_bytes k x, refl)
fewer_bytes (suc c) zero x h = absurd (omega (arith, h))
fewer_bytes (suc c) (suc k) x h =
    let p = fewer_bytes c k (x / 256) (omega (arith, h)) in
    (p.0, ap (λ y. (x % 256) ∷ y) p.1)

-- ---- packed values

width_more : (w n : ℕ) → 2 ^ (w * suc n) ≡ 2 ^ w * 2 ^ (w * n)
width_more w n =
    let e : w * suc n ≡ w + w * n = omega arith in
    ap (λ x. 2 ^ x) e ∙ pow-add 2 w (w * n)

-- what stands above the bits of the values doesn't matter
pub unpacked_below : (n w a b : ℕ) → unpacked n w (a + 2 ^ (w * n) * b) ≡ unpacked n w a
unpacked_below zero w a b = refl
unpacked_below (suc n) w a b =
    let e : a + 2 ^ (w * suc n) * b ≡ a + 2 ^ w * (2 ^ (w * n) * b) = omega (arith, ap (λ x. x * b) (width_more w n)) in
    rw (e, add-mul-mod_self_left a (2 ^ w) (2 ^ (w * n) * b), add-mul-div_left a (2 ^ (w * n) * b) {y = 2 ^ w} (pow_pos w)) (ap (λ x. (a % 2 ^ w) ∷ x) (unpacked_below n w (a / 2 ^ w) b))

abbrev pub are_below : ℕ → List ℕ → Bool
are_below w vs = list_all (λ v. nat_lt v (2 ^ w)) vs

pub unpacked_packed : (w : ℕ) (vs : List ℕ) → are_below w vs ≡ true → unpacked (length vs) w (packed w vs) ≡ vs
unpacked_packed w [] h = refl
unpacked_packed w (v ∷ vs) h =
    let p : (nat_lt v (2 ^ w) ≡ true) × (are_below w vs ≡ true) = and_parts _ _ h in
    let l : v < 2 ^ w = ltb-true _ _ p.0 in
    let e : v / 2 ^ w + packed w vs ≡ packed w vs = omega (arith, div-eq_of_lt l) in
    rw (add-mul-mod_self_left v (2 ^ w) (packed w vs), mod-eq_of_lt l, add-mul-div_left v (packed w vs) {y = 2 ^ w} (pow_pos w), e) (ap (λ x. v ∷ x) (unpacked_packed w vs p.1))

enough_bits : (c k : ℕ) → k ≤ 8 * c → 2 ^ (8 * c) ≡ 2 ^ k * 2 ^ (8 * c - k)
enough_bits c k h =
    let e : 8 * c ≡ k + (8 * c - k) = omega (arith, h) in
    ap (λ x. 2 ^ x) e ∙ pow-add 2 k (8 * c - k)

-- values are unpacked from as many bytes as they need
pub unpacked_bytes : (w c : ℕ) (vs : List ℕ) → are_below w vs ≡ true → w * length vs ≤ 8 * c → unpacked (length vs) w (little_endian (little_endian_bytes c (packed w vs))) ≡ vs
unpacked_bytes w c vs h l =
    let z = above_bytes c (packed w vs) in
    let x : ℕ = little_endian (little_endian_bytes c (packed w vs)) in
    let e : packed w vs ≡ x + 2 ^ (w * length vs) * (2 ^ (8 * c - w * length vs) * z.0) = omega (arith, z.1, ap (λ y. y * z.0) (enough_bits c (w * length vs) l)) in
    sym (unpacked_below (length vs) w x (2 ^ (8 * c - w * length vs) * z.0)) ∙ (ap (unpacked (length vs) w) (sym e) ∙ unpacked_packed w vs h)
