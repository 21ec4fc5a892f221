-- Numbers in bytes, and values in their bits.
use Rattle.std.proofs.Common.{◌≡◌, ℕ, zero, suc, ◌+◌, ◌-◌, ◌*◌, ◌/◌, ◌%◌, ◌^◌, ◌≤◌, ◌<◌, List, [], ◌∷◌, ◌++◌, length, take, drop, get_or, replicate, refl, sym, ap, ap₂, ◌∙◌, arith}
use Rattle.std.specs.Int.{w32, w64, from_le_bytes, to_le_bytes}
use Rattle.std.proofs.lemmas.Nat.{pow-add, shr-shr, pow_pos}
use Rattle.std.proofs.Math.Nat.{add-mul-mod_self_left, add-mul-div_left}
use Rattle.dr_formats.specs.LittleEndian.{little_endian, little_endian_bytes, unpacked}
use Rattle.dr_formats.proofs.LittleEndianLemmas.{unpacked_below}

-- each is below 256
abbrev pub AreBytes : List ℕ → Type 0
AreBytes bytes = (i : ℕ) → get_or bytes i 0 < 256

tail_bytes : (b : ℕ) (bs : List ℕ) → AreBytes (b ∷ bs) → AreBytes bs
tail_bytes b bs h i = h (suc i)

-- ---- numbers in bytes

eight_more : (k : ℕ) → 2 ^ (8 * suc k) ≡ 256 * 2 ^ (8 * k)
eight_more k =
    let e : 8 * suc k ≡ 8 + 8 * k = omega arith in
    ap (λ x. 2 ^ x) e ∙ pow-add 2 8 (8 * k)

-- the number above the first bytes is that of the others
pub number_behind : (o : ℕ) (bs : List ℕ) → AreBytes bs → little_endian bs / 2 ^ (8 * o) ≡ little_endian (drop o bs)
number_behind zero bs h = omega arith
number_behind (suc o) [] h = let p : 0 < 2 ^ (8 * suc o) = pow_pos (8 * suc o) in omega (arith, p)
number_behind (suc o) (b ∷ bs) h =
    let e : 8 * suc o ≡ 8 + 8 * o = omega arith in
    let f : (b + 256 * little_endian bs) / 2 ^ 8 ≡ little_endian bs = omega (arith, h 0) in
    ap (λ x. (b + 256 * little_endian bs) / 2 ^ x) e ∙ (sym (shr-shr (b + 256 * little_endian bs) 8 (8 * o)) ∙ (ap (λ x. x / 2 ^ (8 * o)) f ∙ number_behind o bs (tail_bytes b bs h)))

-- a number is that of its first bytes, and that of the others above them
pub number_split : (c : ℕ) (bs : List ℕ) → little_endian bs ≡ little_endian (take c bs) + 2 ^ (8 * c) * little_endian (drop c bs)
number_split zero bs = omega arith
number_split (suc c) [] = omega arith
number_split (suc c) (b ∷ bs) =
    let e : little_endian bs ≡ little_endian (take c bs) + 2 ^ (8 * c) * little_endian (drop c bs) = number_split c bs in
    let f : 2 ^ (8 * suc c) * little_endian (drop c bs) ≡ 256 * 2 ^ (8 * c) * little_endian (drop c bs) = ap (λ x. x * little_endian (drop c bs)) (eight_more c) in
    omega (arith, e, f)

-- noughts above a number
pub number_padded : (bs : List ℕ) (k : ℕ) → little_endian (bs ++ replicate k 0) ≡ little_endian bs
number_padded [] zero = refl
number_padded [] (suc k) = omega (arith, number_padded [] k)
number_padded (b ∷ bs) k = omega (arith, number_padded bs k)

pub number_below : (bs : List ℕ) → AreBytes bs → little_endian bs < 2 ^ (8 * length bs)
number_below [] h = omega arith
number_below (b ∷ bs) h = omega (arith, h 0, number_below bs (tail_bytes b bs h), eight_more (length bs))

-- ---- values in bits

pub length_unpacked : (n w x : ℕ) → length (unpacked n w x) ≡ n
length_unpacked zero w x = refl
length_unpacked (suc n) w x = ap suc (length_unpacked n w (x / 2 ^ w))

pub unpacked_more : (a n w x : ℕ) → unpacked (a + n) w x ≡ unpacked a w x ++ unpacked n w (x / 2 ^ (a * w))
unpacked_more zero n w x =
    let e : 0 + n ≡ n = omega arith in
    let g : 0 * w ≡ 0 = omega arith in
    let f : x / 2 ^ 0 ≡ x = omega arith in
    rw (e, g, f) refl
unpacked_more (suc a) n w x =
    let e : suc a + n ≡ suc (a + n) = omega arith in
    let f : w + a * w ≡ suc a * w = omega arith in
    rw e (ap (λ vs. (x % 2 ^ w) ∷ vs) (unpacked_more a n w (x / 2 ^ w) ∙ ap (λ y. unpacked a w (x / 2 ^ w) ++ unpacked n w y) (shr-shr x w (a * w) ∙ ap (λ k. x / 2 ^ k) f)))

pub unpacked_front : (a n w x : ℕ) → a ≤ n → take a (unpacked n w x) ≡ unpacked a w x
unpacked_front zero n w x h = refl
unpacked_front (suc a) zero w x h = absurd (omega (arith, h))
unpacked_front (suc a) (suc n) w x h = ap (λ vs. (x % 2 ^ w) ∷ vs) (unpacked_front a n w (x / 2 ^ w) (omega (arith, h)))

-- values that begin with a byte are in the word at that byte, where it has room for them
pub in_word : (bs : List ℕ) (w n a place : ℕ) → AreBytes bs → n * w ≤ 64 → a * w ≡ 8 * place → unpacked n w (little_endian bs / 2 ^ (a * w)) ≡ unpacked n w (little_endian (take 8 (drop place bs)))
in_word bs w n a place h l e =
    let z : ℕ = little_endian (drop 8 (drop place bs)) in
    let f : little_endian bs / 2 ^ (a * w) ≡ little_endian (drop place bs) = ap (λ k. little_endian bs / 2 ^ k) e ∙ number_behind place bs h in
    let g : 64 ≡ w * n + (64 - n * w) = omega (arith, l) in
    let p : 2 ^ 64 ≡ 2 ^ (w * n) * 2 ^ (64 - n * w) = ap (λ k. 2 ^ k) g ∙ pow-add 2 (w * n) (64 - n * w) in
    let q : 2 ^ 64 * z ≡ 2 ^ (w * n) * 2 ^ (64 - n * w) * z = ap (λ k. k * z) p in
    let s : little_endian (drop place bs) ≡ little_endian (take 8 (drop place bs)) + 2 ^ (w * n) * (2 ^ (64 - n * w) * z) = omega (arith, number_split 8 (drop place bs), q) in
    rw (f, s) (unpacked_below n w (little_endian (take 8 (drop place bs))) (2 ^ (64 - n * w) * z))

-- the value behind the first so many is in the word at the byte where it begins
pub one_in_word : (bs : List ℕ) (w a place shift : ℕ) → AreBytes bs → shift + w ≤ 64 → a * w ≡ 8 * place + shift → little_endian bs / 2 ^ (a * w) % 2 ^ w ≡ little_endian (take 8 (drop place bs)) / 2 ^ shift % 2 ^ w
one_in_word bs w a place shift h l e =
    let y : ℕ = little_endian (take 8 (drop place bs)) in
    let z : ℕ = little_endian (drop 8 (drop place bs)) in
    let r : ℕ = 64 - (shift + w) in
    let f : little_endian bs / 2 ^ (a * w) ≡ little_endian (drop place bs) / 2 ^ shift = ap (λ k. little_endian bs / 2 ^ k) e ∙ (sym (shr-shr (little_endian bs) (8 * place) shift) ∙ ap (λ k. k / 2 ^ shift) (number_behind place bs h)) in
    let g : 64 ≡ shift + (w + r) = omega (arith, l) in
    let p : 2 ^ 64 ≡ 2 ^ shift * (2 ^ w * 2 ^ r) = ap (λ k. 2 ^ k) g ∙ (pow-add 2 shift (w + r) ∙ ap (λ k. 2 ^ shift * k) (pow-add 2 w r)) in
    let q : 2 ^ 64 * z ≡ 2 ^ shift * (2 ^ w * 2 ^ r) * z = ap (λ k. k * z) p in
    let s : little_endian (drop place bs) ≡ y + 2 ^ shift * (2 ^ w * (2 ^ r * z)) = omega (arith, number_split 8 (drop place bs), q) in
    rw (f, s, add-mul-div_left y (2 ^ w * (2 ^ r * z)) {y = 2 ^ shift} (pow_pos shift)) (add-mul-mod_self_left (y / 2 ^ shift) (2 ^ w) (2 ^ r * z))

-- ---- bytes of numbers

pub bytes_more : (e c x : ℕ) → little_endian_bytes (e + c) x ≡ little_endian_bytes e x ++ little_endian_bytes c (x / 2 ^ (8 * e))
bytes_more zero c x =
    let e : 0 + c ≡ c = omega arith in
    let f : x / 2 ^ (8 * 0) ≡ x = omega arith in
    rw (e, f) refl
bytes_more (suc e) c x =
    let f : suc e + c ≡ suc (e + c) = omega arith in
    let g : 8 + 8 * e ≡ 8 * suc e = omega arith in
    rw f (ap (λ bs. (x % 256) ∷ bs) (bytes_more e c (x / 256) ∙ ap (λ y. little_endian_bytes e (x / 256) ++ little_endian_bytes c y) (shr-shr x 8 (8 * e) ∙ ap (λ k. x / 2 ^ k) g)))

-- what stands above the bytes doesn't matter
pub bytes_below : (c a b : ℕ) → little_endian_bytes c (a + 2 ^ (8 * c) * b) ≡ little_endian_bytes c a
bytes_below zero a b = refl
bytes_below (suc c) a b =
    let p : 2 ^ (8 * suc c) * b ≡ 256 * 2 ^ (8 * c) * b = ap (λ x. x * b) (eight_more c) in
    let e : (a + 2 ^ (8 * suc c) * b) % 256 ≡ a % 256 = omega (arith, p) in
    let f : (a + 2 ^ (8 * suc c) * b) / 256 ≡ a / 256 + 2 ^ (8 * c) * b = omega (arith, p) in
    rw (e, f) (ap (λ bs. (a % 256) ∷ bs) (bytes_below c (a / 256) b))

pub four_bytes_of : (x : ℕ) → to_le_bytes w32 x ≡ little_endian_bytes 4 x
four_bytes_of x = ap₂ (λ a b. (x % 256) ∷ (x / 256 % 256) ∷ a ∷ b ∷ []) (omega arith) (omega arith)

pub eight_bytes_of : (x : ℕ) → to_le_bytes w64 x ≡ little_endian_bytes 8 x
eight_bytes_of x =
    let e2 : x / 65536 % 256 ≡ x / 256 / 256 % 256 = omega arith in
    let e3 : x / 16777216 % 256 ≡ x / 256 / 256 / 256 % 256 = omega arith in
    let e4 : x / 4294967296 % 256 ≡ x / 256 / 256 / 256 / 256 % 256 = omega arith in
    let e5 : x / 1099511627776 % 256 ≡ x / 256 / 256 / 256 / 256 / 256 % 256 = omega arith in
    let e6 : x / 281474976710656 % 256 ≡ x / 256 / 256 / 256 / 256 / 256 / 256 % 256 = omega arith in
    let e7 : x / 72057594037927936 % 256 ≡ x / 256 / 256 / 256 / 256 / 256 / 256 / 256 % 256 = omega arith in
    rw (e2, e3, e4, e5, e6, e7) refl

pub front_bytes : (k n x : ℕ) → k ≤ n → take k (little_endian_bytes n x) ≡ little_endian_bytes k x
front_bytes zero n x h = refl
front_bytes (suc k) zero x h = absurd (omega (arith, h))
front_bytes (suc k) (suc n) x h = ap (λ bs. (x % 256) ∷ bs) (front_bytes k n (x / 256) (omega (arith, h)))

-- ---- as std reads them

pub word_of : (bs : List ℕ) → length bs ≡ 8 → from_le_bytes w64 bs ≡ little_endian bs
word_of (a ∷ b ∷ c ∷ d ∷ e ∷ f ∷ g ∷ h ∷ []) l = omega arith
word_of bs l = absurd (omega (arith, l))

pub word_of_four : (bs : List ℕ) → length bs ≡ 4 → from_le_bytes w32 bs ≡ little_endian bs
word_of_four (a ∷ b ∷ c ∷ d ∷ []) l = omega arith
word_of_four bs l = absurd (omega (arith, l))
