-- The shortest varint of a number is read as that number, and zigzag is undone.
use Rattle.std.proofs.Common.{◌≡◌, ℕ, zero, suc, ◌+◌, ◌*◌, ◌/◌, ◌%◌, ◌^◌, ◌≤◌, ◌<◌, List, [], ◌∷◌, ◌++◌, length, Bool, true, false, refl, sym, ap, ◌∙◌, arith, ℤ, pos, negsuc}
use Rattle.std.specs.Prelude.{nat_le, nat_lt, if◌then◌else◌}
use Rattle.std.proofs.lemmas.Bool.{ltb-true, ltb-false, lt-ltb, le-ltb, leb-true, and_parts, true≢false}
use Rattle.dr_formats.specs.Reading.{got, IsReadAs}
use Rattle.dr_formats.specs.Varint.{varint_short, varint_too_long, read_varint, varint_from, varint_below, varint, varint_bytes_from, varint_bytes, zigzag, from_zigzag, is_chain, seven_bits, SpellsVarint}
use Rattle.dr_formats.specs.VarintLaws.{VarintIsReadExactly, WrittenVarintIsRead, WrittenVarintIsShortest, ZigzagIsUndone}
use Rattle.dr_formats.proofs.SoundLemmas.{sound_below}

-- 128 to this power times 128
abbrev pub room : ℕ → ℕ
room zero = 128
room (suc k) = room k * 128

total : (sum n worth : ℕ) → sum + n % 128 * worth + n / 128 * (128 * worth) ≡ sum + n * worth
total sum n worth =
    let h : n ≡ n / 128 * 128 + n % 128 = omega arith in
    let g : n * worth ≡ (n / 128 * 128 + n % 128) * worth = ap (λ x. x * worth) h in
    omega (arith, g)

-- the shortest varint of a number, which is below the bound, is read as that number
abbrev Reads : (E : Type 0) → E → E → ℕ → ℕ → Type 0
Reads E short long bound k = (sum worth n : ℕ) → n < room k → sum + n * worth < bound → (rest : List ℕ) → varint_from short long bound k sum worth (varint_bytes_from k n ++ rest) ≡ got (sum + n * worth) rest

shortest_step : {E : Type 0} (short long : E) (bound k : ℕ) → Reads E short long bound k → (sum worth n : ℕ) (t : Bool) → nat_lt n 128 ≡ t → n < room k * 128 → sum + n * worth < bound → (rest : List ℕ) → varint_from short long bound (suc k) sum worth ((if t then n ∷ [] else (128 + n % 128) ∷ varint_bytes_from k (n / 128)) ++ rest) ≡ got (sum + n * worth) rest
shortest_step short long bound k back sum worth n true t h b rest =
    let l : n < 128 = ltb-true _ _ t in
    let e : n % 128 ≡ n = omega arith in
    rw (e, lt-ltb _ _ b, t) refl
shortest_step short long bound k back sum worth n false t h b rest =
    let l : 128 ≤ n = ltb-false _ _ t in
    let d : n / 128 < room k = omega arith in
    let e : (128 + n % 128) % 128 ≡ n % 128 = omega arith in
    let f : sum + n % 128 * worth + n / 128 * (128 * worth) ≡ sum + n * worth = total sum n worth in
    let g : sum + n % 128 * worth < bound = omega arith in
    let i : sum + n % 128 * worth + n / 128 * (128 * worth) < bound = omega arith in
    rw (e, lt-ltb _ _ g, le-ltb (128 + n % 128) 128 (omega arith), ← f) (back (sum + n % 128 * worth) (128 * worth) (n / 128) d i rest)

shortest_from : {E : Type 0} (short long : E) (bound k : ℕ) → Reads E short long bound k
shortest_from short long bound zero sum worth n h b rest =
    let e : n % 128 ≡ n = omega arith in
    rw (e, lt-ltb _ _ b, lt-ltb n 128 h) refl
shortest_from short long bound (suc k) sum worth n h b rest = shortest_step short long bound k (shortest_from short long bound k) sum worth n (nat_lt n 128) refl h b rest

-- a number below the bound, if that is at most 2^64, is spelled by its shortest varint
pub spells_below : {E : Type 0} (bound : ℕ) (short long : E) (n : ℕ) → bound ≤ 2 ^ 64 → n < bound → IsReadAs (varint_below bound short long) (varint_bytes n) n
spells_below bound short long n c b rest =
    let h : n < room 9 = omega arith in
    let e : 0 + n * 1 ≡ n = omega arith in
    let i : 0 + n * 1 < bound = omega arith in
    rw e at (shortest_from short long bound 9 0 1 n h i rest)

pub spells_varint : {E : Type 0} (short long : E) (n : ℕ) → n < 2 ^ 64 → IsReadAs (varint short long) (varint_bytes n) n
spells_varint short long n b = spells_below (2 ^ 64) short long n (omega arith) b

pub zigzag_back : (z : ℤ) → from_zigzag (zigzag z) ≡ z
zigzag_back (pos n) =
    let e : 2 * n % 2 ≡ 0 = omega arith in
    let f : 2 * n / 2 ≡ n = omega arith in
    rw (e, f) refl
zigzag_back (negsuc n) =
    let e : (2 * n + 1) % 2 ≡ 1 = omega arith in
    let f : (2 * n + 1) / 2 ≡ n = omega arith in
    rw (e, f) refl

-- a varint has a byte at least
pub varint_has_byte : (k n : ℕ) → 1 ≤ length (varint_bytes_from k n)
varint_has_byte zero n = omega arith
varint_has_byte (suc k) n = by (nat_lt n 128)
  where
    by : (b : Bool) → 1 ≤ length (if b then n ∷ [] else (128 + n % 128) ∷ varint_bytes_from k (n / 128))
    by true = omega arith
    by false = omega arith

-- ---- every spelling is read

abbrev ChainReads : (E : Type 0) → E → E → ℕ → ℕ → ℕ → ℕ → List ℕ → Type 0
ChainReads E short long bound k sum worth bytes = (rest : List ℕ) → varint_from short long bound k sum worth (bytes ++ rest) ≡ got (sum + seven_bits bytes * worth) rest

chain_reads : {E : Type 0} (short long : E) (bound k : ℕ) (bytes : List ℕ) (sum worth : ℕ) → is_chain bytes ≡ true → length bytes ≤ suc k → sum + seven_bits bytes * worth < bound → ChainReads E short long bound k sum worth bytes
chain_reads short long bound k [] sum worth c l h rest = absurd (true≢false (sym c))
chain_reads short long bound zero (b ∷ []) sum worth c l h rest =
    let e : sum + (b % 128 + 128 * 0) * worth ≡ sum + b % 128 * worth = omega arith in
    let g : sum + b % 128 * worth < bound = omega (arith, h, e) in
    rw (e, lt-ltb (sum + b % 128 * worth) bound g, c) refl
chain_reads short long bound (suc k) (b ∷ []) sum worth c l h rest =
    let e : sum + (b % 128 + 128 * 0) * worth ≡ sum + b % 128 * worth = omega arith in
    let g : sum + b % 128 * worth < bound = omega (arith, h, e) in
    rw (e, lt-ltb (sum + b % 128 * worth) bound g, c) refl
chain_reads short long bound zero (b ∷ d ∷ bs) sum worth c l h rest = absurd (omega (arith, l))
chain_reads short long bound (suc k) (b ∷ d ∷ bs) sum worth c l h rest =
    let p : (nat_le 128 b ≡ true) × (is_chain (d ∷ bs) ≡ true) = and_parts _ _ c in
    let e : sum + seven_bits (b ∷ d ∷ bs) * worth ≡ sum + b % 128 * worth + seven_bits (d ∷ bs) * (128 * worth) = omega arith in
    let g : sum + b % 128 * worth < bound = omega (arith, h, e) in
    let i : sum + b % 128 * worth + seven_bits (d ∷ bs) * (128 * worth) < bound = omega (arith, h, e) in
    rw (lt-ltb _ _ g, le-ltb b 128 (leb-true 128 b p.0)) (chain_reads short long bound k (d ∷ bs) (sum + b % 128 * worth) (128 * worth) p.1 (omega (arith, l)) i rest ∙ ap (λ x. got x rest) (sym e))

pub varint_reads : {E : Type 0} (bound : ℕ) (short long : E) (bytes : List ℕ) (n : ℕ) → SpellsVarint bound bytes n → IsReadAs (varint_below bound short long) bytes n
varint_reads bound short long bytes n h rest =
    let e : 0 + seven_bits bytes * 1 ≡ n = omega (arith, h.2) in
    chain_reads short long bound 9 bytes 0 1 h.0 h.1 (omega (arith, e, h.3)) rest ∙ ap (λ x. got x rest) e

-- ---- the written one is the shortest

varint_step : (k j n : ℕ) (b : Bool) → nat_lt n 128 ≡ b → n < room j → ((i : ℕ) → n / 128 < room i → length (varint_bytes_from k (n / 128)) ≤ suc i) → length (if b then n ∷ [] else (128 + n % 128) ∷ varint_bytes_from k (n / 128)) ≤ suc j
varint_step k j n true e h s = omega arith
varint_step k zero n false e h s = absurd (omega (arith, ltb-false _ _ e, h))
varint_step k (suc j) n false e h s = let l : length (varint_bytes_from k (n / 128)) ≤ suc j = s j (omega (arith, h)) in omega (arith, l)

pub varint_length : (k j n : ℕ) → n < room j → length (varint_bytes_from k n) ≤ suc j
varint_length zero j n h = omega arith
varint_length (suc k) j n h = varint_step k j n (nat_lt n 128) refl h (λ i. varint_length k i (n / 128))

chain_room : (b : ℕ) (w : List ℕ) → seven_bits (b ∷ w) < room (length w)
chain_room b [] = omega arith
chain_room b (c ∷ w) = omega (arith, chain_room c w)

shortest_of : (n : ℕ) (w : List ℕ) → is_chain w ≡ true → seven_bits w ≡ n → length (varint_bytes n) ≤ length w
shortest_of n [] c e = absurd (true≢false (sym c))
shortest_of n (b ∷ w) c e = varint_length 9 (length w) n (omega (arith, e, chain_room b w))

pub written_varint_is_shortest : WrittenVarintIsShortest
written_varint_is_shortest w n h = shortest_of n w h.0 h.2

pub written_varint_is_read : WrittenVarintIsRead
written_varint_is_read n h = spells_varint varint_short varint_too_long n h

pub varint_is_read_exactly : VarintIsReadExactly
varint_is_read_exactly bytes rest n = (λ h. sound_below (2 ^ 64) varint_short varint_too_long bytes n rest h, λ p. ap read_varint p.1 ∙ varint_reads (2 ^ 64) varint_short varint_too_long p.0 n p.2 rest)

pub zigzag_is_undone : ZigzagIsUndone
zigzag_is_undone z = zigzag_back z
