-- Reading a variable-length number, and spelling one, a byte at a time.
use Rattle.std.proofs.Common.{◌≡◌, ℕ, zero, suc, ◌+◌, ◌-◌, ◌*◌, ◌/◌, ◌%◌, ◌^◌, ◌≤◌, ◌<◌, List, [], ◌∷◌, ◌++◌, length, take, drop, set, get_or, length-set, false, refl, sym, ap, subst, ◌∙◌, arith, append_assoc, pow_mono, ◌⊎◌, inl, inr}
use Rattle.std.specs.Prelude.{◌&&◌, nat_lt}
use Rattle.std.proofs.lemmas.Bool.{lt-ltb, le-ltb, and_right, and_left, cases_lt}
use Rattle.std.proofs.lemmas.List.{drop_more, take_more_set}
use Rattle.std.proofs.lemmas.Nat.{pow-add}
use Rattle.std.proofs.Math.Nat.{mul-le-mul_right}
use Rattle.dr_formats.specs.Reading.{Reading, got, refused}
use Rattle.dr_formats.specs.Varint.{VarintFault, varint_short, varint_too_long, read_varint, varint_from, varint_bytes_from}

-- ---- reading

-- reading on with so many bytes to come, so far this sum, and the next byte worth this
abbrev pub read_on : ℕ → ℕ → ℕ → List ℕ → Reading VarintFault ℕ
read_on k sum worth bytes = varint_from varint_short varint_too_long (2 ^ 64) k sum worth bytes

goes_on : (k sum worth b : ℕ) (rest : List ℕ) → 128 ≤ b → sum + b % 128 * worth < 2 ^ 64 → read_on (suc k) sum worth (b ∷ rest) ≡ read_on k (sum + b % 128 * worth) (128 * worth) rest
goes_on k sum worth b rest h f = rw (lt-ltb (sum + b % 128 * worth) (2 ^ 64) f, le-ltb b 128 h) refl

ends : (k sum worth b : ℕ) (rest : List ℕ) → b < 128 → sum + b % 128 * worth < 2 ^ 64 → read_on k sum worth (b ∷ rest) ≡ got (sum + b % 128 * worth) rest
ends zero sum worth b rest h f = rw (lt-ltb (sum + b % 128 * worth) (2 ^ 64) f, lt-ltb b 128 h) refl
ends (suc k) sum worth b rest h f = rw (lt-ltb (sum + b % 128 * worth) (2 ^ 64) f, lt-ltb b 128 h) refl

-- a tenth byte above 1
tenth_is_no_end : (sum b : ℕ) → 1 < b → (b < 128) ⊎ (128 ≤ b) → (nat_lt (sum + b % 128 * 2 ^ 63) (2 ^ 64) && nat_lt b 128) ≡ false
tenth_is_no_end sum b h (inl l) = and_left _ _ (le-ltb (sum + b % 128 * 2 ^ 63) (2 ^ 64) (omega (arith, h, l)))
tenth_is_no_end sum b h (inr l) = and_right _ _ (le-ltb b 128 l)

is_too_long : (sum b : ℕ) (rest : List ℕ) → 1 < b → read_on 0 sum (2 ^ 63) (b ∷ rest) ≡ refused varint_too_long (b ∷ rest)
is_too_long sum b rest h = rw (tenth_is_no_end sum b h (cases_lt b 128)) refl

-- ---- the loop that reads: so many bytes are read, and what is left is read on
pub record Along (bytes : List ℕ) (count sum worth : ℕ) : Type 0 where
  pub short : count ≤ 9
  pub power : worth ≡ 2 ^ (7 * count)
  pub below : sum < worth
  pub rest : read_varint bytes ≡ read_on (9 - count) sum worth (drop count bytes)

room : (count : ℕ) → count ≤ 8 → 2 ^ (7 * count) ≤ 2 ^ 56
room count h = let e : 7 * count ≤ 56 = omega (arith, h) in pow_mono e

seven_more : (count : ℕ) → 2 ^ (7 * (count + 1)) ≡ 128 * 2 ^ (7 * count)
seven_more count =
    let e : 7 * (count + 1) ≡ 7 + 7 * count = omega arith in
    ap (λ n. 2 ^ n) e ∙ pow-add 2 7 (7 * count)

sum_more : (sum worth low : ℕ) → sum < worth → low ≤ 127 → sum + low * worth < 128 * worth
sum_more sum worth low h l =
    let f : low * worth ≤ 127 * worth = mul-le-mul_right worth l in
    omega (arith, h, f)

-- the numbers fit their types
pub worth_fits : (bytes : List ℕ) (count sum worth : ℕ) → Along bytes count sum worth → (count + 1 ≡ 10 → ⊥) → 128 * worth ≤ 2 ^ 63
worth_fits bytes count sum worth a n = omega (arith, a.power, room count (omega (arith, a.short, n)))

pub sum_fits : (bytes : List ℕ) (count sum worth low : ℕ) → Along bytes count sum worth → (count + 1 ≡ 10 → ⊥) → low ≤ 127 → sum + low * worth < 2 ^ 63
sum_fits bytes count sum worth low a n l = omega (arith, worth_fits bytes count sum worth a n, sum_more sum worth low a.below l)

-- the next byte
at_next : (bytes : List ℕ) (count sum worth : ℕ) → Along bytes count sum worth → count < length bytes → read_varint bytes ≡ read_on (9 - count) sum worth (get_or bytes count 0 ∷ drop (count + 1) bytes)
at_next bytes count sum worth a h = a.rest ∙ ap (read_on (9 - count) sum worth) (drop_more bytes count 0 h)

pub ended : (bytes : List ℕ) (count sum worth b low : ℕ) → Along bytes count sum worth → (count + 1 ≡ 10 → ⊥) → count < length bytes → b ≡ get_or bytes count 0 → low ≡ b % 128 → b < 128 → read_varint bytes ≡ got (sum + low * worth) (drop (count + 1) bytes)
ended bytes count sum worth b low a n h e f l =
    let g : sum + b % 128 * worth < 2 ^ 64 = omega (arith, sum_fits bytes count sum worth (b % 128) a n (omega arith)) in
    rw (f, at_next bytes count sum worth a h, ← e) (ends (9 - count) sum worth b (drop (count + 1) bytes) l g)

pub gone_on : (bytes : List ℕ) (count sum worth b low : ℕ) → Along bytes count sum worth → (count + 1 ≡ 10 → ⊥) → count < length bytes → b ≡ get_or bytes count 0 → low ≡ b % 128 → 128 ≤ b → Along bytes (count + 1) (sum + low * worth) (worth * 128)
gone_on bytes count sum worth b low a n h e f l =
    let g : sum + b % 128 * worth < 2 ^ 64 = omega (arith, sum_fits bytes count sum worth (b % 128) a n (omega arith)) in
    let i : 9 - count ≡ suc (9 - (count + 1)) = omega (arith, a.short, n) in
    let j : 128 * worth ≡ worth * 128 = omega arith in
    record {
      short = omega (arith, a.short, n);
      power = omega (arith, a.power, seven_more count);
      below = omega (arith, sum_more sum worth low a.below (omega (arith, f)));
      rest = rw (f, ← j, at_next bytes count sum worth a h, ← e, i) (goes_on (9 - (count + 1)) sum worth b (drop (count + 1) bytes) l g);
    }

-- the tenth byte
tenth_worth : (bytes : List ℕ) (count sum worth : ℕ) → Along bytes count sum worth → count + 1 ≡ 10 → (count ≡ 9) × (worth ≡ 2 ^ 63)
tenth_worth bytes count sum worth a n =
    let e : count ≡ 9 = omega (arith, n) in
    (e, a.power ∙ ap (λ k. 2 ^ (7 * k)) e)

pub tenth_ended : (bytes : List ℕ) (count sum worth b low : ℕ) → Along bytes count sum worth → count + 1 ≡ 10 → count < length bytes → b ≡ get_or bytes count 0 → low ≡ b % 128 → b ≤ 1 → read_varint bytes ≡ got (sum + low * worth) (drop 10 bytes)
tenth_ended bytes count sum worth b low a n h e f l =
    let w = tenth_worth bytes count sum worth a n in
    let m : b % 128 ≡ b = omega (arith, l) in
    let p : b * worth ≤ 1 * worth = mul-le-mul_right worth l in
    let g : sum + b % 128 * worth < 2 ^ 64 = rw m (omega (arith, a.below, w.1, p)) in
    rw (f, ← n, at_next bytes count sum worth a h, ← e) (ends (9 - count) sum worth b (drop (count + 1) bytes) (omega (arith, l)) g)

pub tenth_too_long : (bytes : List ℕ) (count sum worth b : ℕ) → Along bytes count sum worth → count + 1 ≡ 10 → count < length bytes → b ≡ get_or bytes count 0 → 1 < b → read_varint bytes ≡ refused varint_too_long (b ∷ drop (count + 1) bytes)
tenth_too_long bytes count sum worth b a n h e l =
    let w = tenth_worth bytes count sum worth a n in
    let k : 9 - count ≡ 0 = omega (arith, w.0) in
    rw (at_next bytes count sum worth a h, ← e, k, w.1) (is_too_long sum b (drop (count + 1) bytes) l)

-- ---- the loop that writes: so many bytes are written, and the rest is still to be
pub record Written (number : ℕ) (bytes : List ℕ) (count rest : ℕ) : Type 0 where
  pub size : length bytes ≡ 10
  pub short : count ≤ 9
  pub fits : rest * 2 ^ (7 * count) < 2 ^ 64
  pub all : varint_bytes_from 9 number ≡ take count bytes ++ varint_bytes_from (9 - count) rest

spell_more : (k rest : ℕ) → 128 ≤ rest → varint_bytes_from (suc k) rest ≡ (128 + rest % 128) ∷ varint_bytes_from k (rest / 128)
spell_more k rest h = rw (le-ltb rest 128 h) refl

spell_end : (k rest : ℕ) → rest < 128 → varint_bytes_from k rest ≡ rest ∷ []
spell_end zero rest h = refl
spell_end (suc k) rest h = rw (lt-ltb rest 128 h) refl

is_short : (count rest : ℕ) → count ≤ 9 → 128 ≤ rest → rest * 2 ^ (7 * count) < 2 ^ 64 → count ≤ 8
is_short count rest l h f = by (cases_lt count 9)
  where
    at_nine : count ≡ 9 → ⊥
    at_nine e =
        let g : rest * 2 ^ (7 * 9) < 2 ^ 64 = subst (λ (n : ℕ). rest * 2 ^ (7 * n) < 2 ^ 64) e f in
        omega (arith, g, h)

    by : (count < 9) ⊎ (9 ≤ count) → count ≤ 8
    by (inl g) = omega (arith, g)
    by (inr g) = absurd (at_nine (omega (arith, l, g)))

pub wrote : (number : ℕ) (bytes : List ℕ) (count rest : ℕ) → Written number bytes count rest → 128 ≤ rest → Written number (set bytes count (128 + rest % 128)) (count + 1) (rest / 128)
wrote number bytes count rest w h =
    let s : count ≤ 8 = is_short count rest w.short h w.fits in
    let k : 9 - count ≡ suc (9 - (count + 1)) = omega (arith, s) in
    let q : rest / 128 * 128 * 2 ^ (7 * count) ≤ rest * 2 ^ (7 * count) = mul-le-mul_right (2 ^ (7 * count)) (omega arith) in
    let p : rest / 128 * 2 ^ (7 * (count + 1)) ≡ rest / 128 * 128 * 2 ^ (7 * count) = omega (arith, ap (λ n. rest / 128 * n) (seven_more count)) in
    record {
      size = length-set bytes count (128 + rest % 128) ∙ w.size;
      short = omega (arith, s);
      fits = omega (arith, w.fits, q, p);
      all = w.all ∙ (ap (λ n. take count bytes ++ varint_bytes_from n rest) k ∙ (ap (λ xs. take count bytes ++ xs) (spell_more (9 - (count + 1)) rest h) ∙ (sym (append_assoc (take count bytes) ((128 + rest % 128) ∷ []) (varint_bytes_from (9 - (count + 1)) (rest / 128))) ∙ ap (λ xs. xs ++ varint_bytes_from (9 - (count + 1)) (rest / 128)) (sym (take_more_set bytes count (128 + rest % 128) (omega (arith, s, w.size)))))));
    }

pub wrote_all : (number : ℕ) (bytes : List ℕ) (count rest : ℕ) → Written number bytes count rest → rest < 128 → take (count + 1) (set bytes count rest) ≡ varint_bytes_from 9 number
wrote_all number bytes count rest w h = take_more_set bytes count rest (omega (arith, w.short, w.size)) ∙ sym (w.all ∙ ap (λ xs. take count bytes ++ xs) (spell_end (9 - count) rest h))
