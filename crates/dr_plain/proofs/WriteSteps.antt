-- Values that are written.
use Rattle.std.proofs.Common.{◌≡◌, ℕ, zero, suc, ◌+◌, ◌-◌, ◌*◌, ◌/◌, ◌%◌, ◌^◌, ◌≤◌, ◌<◌, List, [], ◌∷◌, ◌++◌, map, length, take, drop, get_or, Bool, true, false, refl, sym, ap, ap₂, ◌∙◌, subst, arith, append_assoc, pow_mono, ℤ, pos, negsuc, Result, Ok, Err, OnOk, ◌⊎◌, inl, inr}
use Rattle.std.specs.Prelude.{min, is_ok, is_err, if◌then◌else◌}
use Rattle.std.specs.Int.{w32, w64, to_le_bytes, cast_signed, cast_unsigned, from_bool}
use mir.Val.{SFits}
use Rattle.std.specs.List.{list_all}
use Rattle.std.proofs.lemmas.Bool.{and_parts, ltb-true, leb-true, lt-ltb, le-ltb, false≢true, cases_lt}
use Rattle.std.proofs.lemmas.List.{append-nil, take_more, take_all, map_push, drop-drop, drop_all, drop-map, length-map, take-map, take_at, length-take}
use Rattle.std.proofs.lemmas.Nat.{pow-add}
use Rattle.dr_meaning.specs.Schema.{Kind, int32_kind, text_kind}
use Rattle.dr_meaning.specs.Record.{Value, bool_value, int_value, text_value, in_int32}
use Rattle.dr_formats.specs.LittleEndian.{little_endian_bytes, packed, bytes_for}
use Rattle.dr_formats.specs.Plain.{complement, bit_of, plain_number_bytes, joined, is_writable}
use Rattle.dr_bytes.proofs.BitLemmas.{four_bytes_of, eight_bytes_of}

-- ---- one value after another

pub joined_push : (f : Value → List ℕ) (vs : List Value) (v : Value) → joined f (vs ++ v ∷ []) ≡ joined f vs ++ f v
joined_push f [] v = append-nil (f v)
joined_push f (x ∷ xs) v = ap (λ bs. f x ++ bs) (joined_push f xs v) ∙ sym (append_assoc (f x) (joined f xs) (f v))

-- the loop that writes: so many of the values are written
abbrev pub Joined : {A : Type 0} → (Value → List ℕ) → (A → Value) → List A → List ℕ → List ℕ → ℕ → Type 0
Joined f see values old out i = out ≡ old ++ joined f (map see (take i values))

pub joined_none : {A : Type 0} (f : Value → List ℕ) (see : A → Value) (values : List A) (old : List ℕ) → Joined f see values old old 0
joined_none f see values old = sym (append-nil old)

pub joined_more : {A : Type 0} (f : Value → List ℕ) (see : A → Value) (values : List A) (old out new bytes : List ℕ) (i : ℕ) (d : A) → i < length values → bytes ≡ f (see (get_or values i d)) → new ≡ out ++ bytes → Joined f see values old out i → Joined f see values old new (i + 1)
joined_more f see values old out new bytes i d h e g s =
    g ∙ (ap₂ (λ xs ys. xs ++ ys) s e ∙ (append_assoc old (joined f (map see (take i values))) (f (see (get_or values i d))) ∙ ap (λ bs. old ++ bs) (sym (ap (λ xs. joined f (map see xs)) (take_more values i d h) ∙ (ap (joined f) (map_push see (take i values) (get_or values i d)) ∙ joined_push f (map see (take i values)) (see (get_or values i d)))))))

pub joined_all : {A : Type 0} (f : Value → List ℕ) (see : A → Value) (values : List A) (old out : List ℕ) (i : ℕ) → length values ≤ i → Joined f see values old out i → out ≡ old ++ joined f (map see values)
joined_all f see values old out i h s = s ∙ ap (λ xs. old ++ joined f (map see xs)) (take_all i values h)

-- cut back to what there was
pub cut_back : (old out cut : List ℕ) (more : List ℕ) (n : ℕ) → out ≡ old ++ more → n ≡ length old → cut ≡ take n out → cut ≡ old
cut_back old out cut more n e l f = f ∙ (ap (take n) e ∙ take_at old more n (sym l))

pub extended : {T E : Type 0} (r : Result T E) (old new more : List ℕ) → false ≡ is_err r → new ≡ (if is_ok r then old ++ more else old) → new ≡ old ++ more
extended (Ok x) old new more h e = e
extended (Err x) old new more h e = absurd (false≢true h)

pub not_extended : {T E : Type 0} (r : Result T E) (old new more : List ℕ) → true ≡ is_err r → new ≡ (if is_ok r then old ++ more else old) → new ≡ old
not_extended (Ok x) old new more h e = absurd (false≢true (sym h))
not_extended (Err x) old new more h e = e

-- ---- numbers

unsigned_32 : (z : ℤ) → cast_unsigned w32 z ≡ complement 32 z
unsigned_32 (pos n) = refl
unsigned_32 (negsuc n) = omega arith

unsigned_64 : (z : ℤ) → cast_unsigned w64 z ≡ complement 64 z
unsigned_64 (pos n) = refl
unsigned_64 (negsuc n) = omega arith

pub number_bytes_32 : (z : ℤ) → to_le_bytes w32 (cast_unsigned w32 z) ≡ plain_number_bytes 32 (int_value z)
number_bytes_32 z = four_bytes_of (cast_unsigned w32 z) ∙ ap (little_endian_bytes 4) (unsigned_32 z)

pub number_bytes_64 : (z : ℤ) → to_le_bytes w64 (cast_unsigned w64 z) ≡ plain_number_bytes 64 (int_value z)
number_bytes_64 z = eight_bytes_of (cast_unsigned w64 z) ∙ ap (little_endian_bytes 8) (unsigned_64 z)

pub writable_at : {A : Type 0} (k : Kind) (see : A → Value) (values : List A) (i : ℕ) (d : A) → list_all (is_writable k) (map see values) ≡ true → i < length values → is_writable k (see (get_or values i d)) ≡ true
writable_at k see [] i d h l = absurd (omega (arith, l))
writable_at k see (v ∷ vs) zero d h l = (and_parts _ _ h).0
writable_at k see (v ∷ vs) (suc i) d h l = writable_at k see vs i d (and_parts _ _ h).1 (omega (arith, l))

pub text_fits : (t : List ℕ) → is_writable text_kind (text_value t) ≡ true → length t < 2 ^ 32
text_fits t h = ltb-true (length t) (2 ^ 32) (and_parts _ _ h).1

-- ---- truth values

pub packed_push : (w : ℕ) (vs : List ℕ) (v : ℕ) → packed w (vs ++ v ∷ []) ≡ packed w vs + 2 ^ (w * length vs) * v
packed_push w [] v =
    let e : w * 0 ≡ 0 = omega arith in
    rw e (omega arith)
packed_push w (x ∷ xs) v =
    let e : w * suc (length xs) ≡ w + w * length xs = omega arith in
    let p : 2 ^ (w * suc (length xs)) ≡ 2 ^ w * 2 ^ (w * length xs) = ap (λ n. 2 ^ n) e ∙ pow-add 2 w (w * length xs) in
    let q : 2 ^ (w * suc (length xs)) * v ≡ 2 ^ w * 2 ^ (w * length xs) * v = ap (λ n. n * v) p in
    let r : 2 ^ w * packed w (xs ++ v ∷ []) ≡ 2 ^ w * (packed w xs + 2 ^ (w * length xs) * v) = ap (λ n. 2 ^ w * n) (packed_push w xs v) in
    omega (arith, q, r)

pub packed_split : (w n : ℕ) (vs : List ℕ) → packed w vs ≡ packed w (take n vs) + 2 ^ (w * n) * packed w (drop n vs)
packed_split w zero vs = let e : w * 0 ≡ 0 = omega arith in rw e (omega arith)
packed_split w (suc n) [] = omega arith
packed_split w (suc n) (v ∷ vs) =
    let e : w * suc n ≡ w + w * n = omega arith in
    let p : 2 ^ (w * suc n) ≡ 2 ^ w * 2 ^ (w * n) = ap (λ k. 2 ^ k) e ∙ pow-add 2 w (w * n) in
    let q : 2 ^ (w * suc n) * packed w (drop n vs) ≡ 2 ^ w * 2 ^ (w * n) * packed w (drop n vs) = ap (λ k. k * packed w (drop n vs)) p in
    let r : 2 ^ w * packed w vs ≡ 2 ^ w * (packed w (take n vs) + 2 ^ (w * n) * packed w (drop n vs)) = ap (λ k. 2 ^ w * k) (packed_split w n vs) in
    omega (arith, q, r)

-- the bits of truth values
abbrev pub bits_of : List Bool → List ℕ
bits_of vs = map bit_of (map bool_value vs)

bit_small : (b : Bool) → bit_of (bool_value b) ≤ 1
bit_small true = omega arith
bit_small false = omega arith

refl_pow : (n : ℕ) → 2 ^ suc n ≡ 2 * 2 ^ n
refl_pow n = let e : suc n ≡ 1 + n = omega arith in ap (λ k. 2 ^ k) e ∙ pow-add 2 1 n

pub bits_below : (vs : List Bool) → packed 1 (bits_of vs) < 2 ^ length vs
bits_below [] = omega arith
bits_below (v ∷ vs) = let e : 2 ^ suc (length vs) ≡ 2 * 2 ^ length vs = refl_pow (length vs) in omega (arith, bit_small v, bits_below vs, e)

pub length_bits : (vs : List Bool) → length (bits_of vs) ≡ length vs
length_bits vs = length-map (map bool_value vs) bit_of ∙ length-map vs bool_value

-- the loop that makes a byte: so many bits are in it
pub record Byte (values : List Bool) (i byte worth : ℕ) : Type 0 where
  pub power : worth ≡ 2 ^ i
  pub value : byte ≡ packed 1 (bits_of (take i values))
  pub below : byte < worth

pub byte_none : (values : List Bool) → Byte values 0 0 1
byte_none values = record { power = refl; value = refl; below = omega arith }

pub byte_fits : (values : List Bool) (i byte worth bit : ℕ) → Byte values i byte worth → i < 8 → bit ≤ 1 → (bit * worth ≤ 2 ^ 7) × (byte + bit * worth < 2 ^ 8) × (worth * 2 ≤ 2 ^ 8)
byte_fits values i byte worth bit b h l =
    let e : i ≤ 7 = omega (arith, h) in
    let p : 2 ^ i ≤ 2 ^ 7 = pow_mono e in
    (by bit l (omega (arith, b.power, p)), sums bit l (omega (arith, b.power, p)) (omega (arith, b.below, b.power, p)), omega (arith, b.power, p))
  where
    by : (bit : ℕ) → bit ≤ 1 → worth ≤ 2 ^ 7 → bit * worth ≤ 2 ^ 7
    by zero h l = omega arith
    by (suc zero) h l = omega (arith, l)
    by (suc (suc n)) h l = absurd (omega (arith, h))

    sums : (bit : ℕ) → bit ≤ 1 → worth ≤ 2 ^ 7 → byte < 2 ^ 7 → byte + bit * worth < 2 ^ 8
    sums zero h l k = omega (arith, k)
    sums (suc zero) h l k = omega (arith, l, k)
    sums (suc (suc n)) h l k = absurd (omega (arith, h))

pub byte_more : (values : List Bool) (i byte worth bit : ℕ) (v d : Bool) → Byte values i byte worth → i < length values → v ≡ get_or values i d → bit ≡ bit_of (bool_value v) → Byte values (i + 1) (byte + bit * worth) (worth * 2)
byte_more values i byte worth bit v d b h e f =
    let t : take (i + 1) values ≡ take i values ++ v ∷ [] = take_more values i d h ∙ ap (λ x. take i values ++ x ∷ []) (sym e) in
    let m : bits_of (take (i + 1) values) ≡ bits_of (take i values) ++ bit ∷ [] = ap bits_of t ∙ (ap (map bit_of) (map_push bool_value (take i values) v) ∙ (map_push bit_of (map bool_value (take i values)) (bool_value v) ∙ ap (λ x. bits_of (take i values) ++ x ∷ []) (sym f))) in
    let l : length (bits_of (take i values)) ≡ i = length_bits (take i values) ∙ omega (arith, length-take i values, h) in
    let w : 1 * length (bits_of (take i values)) ≡ i = omega (arith, l) in
    let p : packed 1 (bits_of (take (i + 1) values)) ≡ byte + worth * bit = ap (packed 1) m ∙ (packed_push 1 (bits_of (take i values)) bit ∙ ap₂ (λ x y. x + y * bit) (sym b.value) (ap (λ n. 2 ^ n) w ∙ sym b.power)) in
    let q : 2 ^ (i + 1) ≡ 2 ^ i * 2 = pow-add 2 i 1 in
    let s : packed 1 (bits_of (take (i + 1) values)) < 2 ^ length (take (i + 1) values) = bits_below (take (i + 1) values) in
    let n : length (take (i + 1) values) ≡ i + 1 = omega (arith, length-take (i + 1) values, h) in
    let u : packed 1 (bits_of (take (i + 1) values)) < 2 ^ (i + 1) = subst (λ (k : ℕ). packed 1 (bits_of (take (i + 1) values)) < 2 ^ k) n s in
    record {
      power = omega (arith, b.power, q);
      value = omega (arith, p);
      below = omega (arith, p, u, b.power, q);
    }

-- the loop that writes bytes: so many values are written
pub record Bools (values : List Bool) (old out : List ℕ) (done : ℕ) : Type 0 where
  pub within : done ≤ length values
  pub bytes : old ++ little_endian_bytes (bytes_for (length values)) (packed 1 (bits_of values)) ≡ out ++ little_endian_bytes (bytes_for (length values - done)) (packed 1 (drop done (bits_of values)))

pub bools_none : (values : List Bool) (old : List ℕ) → Bools values old old 0
bools_none values old = record {
  within = omega arith;
  bytes = let e : length values - 0 ≡ length values = omega arith in rw e refl;
}

split_byte : (x a z : ℕ) → x ≡ a + 2 ^ 8 * z → a < 2 ^ 8 → (x % 256 ≡ a) × (x / 256 ≡ z)
split_byte x a z e h = (omega (arith, e, h), omega (arith, e, h))

dropped : {A : Type 0} (xs : List A) (done n : ℕ) → n ≡ min (length xs - done) 8 → done ≤ length xs → drop 8 (drop done xs) ≡ drop (done + n) xs
dropped xs done n e h = drop-drop 8 done xs ∙ by (cases_lt (length xs - done) 8)
  where
    by : ((length xs - done) < 8) ⊎ (8 ≤ (length xs - done)) → drop (done + 8) xs ≡ drop (done + n) xs
    by (inl l) = drop_all (done + 8) xs (omega (arith, l)) ∙ sym (drop_all (done + n) xs (omega (arith, e, l, h)))
    by (inr l) = ap (λ k. drop k xs) (omega (arith, e, l))

pub bools_more : (values : List Bool) (old out new : List ℕ) (done n byte : ℕ) → Bools values old out done → done < length values → n ≡ min (length values - done) 8 → byte ≡ packed 1 (bits_of (take 8 (drop done values))) → new ≡ out ++ byte ∷ [] → Bools values old new (done + n)
bools_more values old out new done n byte b h e f g =
    let bs : List ℕ = drop done (bits_of values) in
    let d : bs ≡ bits_of (drop done values) = drop-map bit_of done (map bool_value values) ∙ ap (map bit_of) (drop-map bool_value done values) in
    let t : take 8 bs ≡ bits_of (take 8 (drop done values)) = ap (take 8) d ∙ (take-map bit_of 8 (map bool_value (drop done values)) ∙ ap (map bit_of) (take-map bool_value 8 (drop done values))) in
    let a : packed 1 (take 8 bs) ≡ byte = ap (packed 1) t ∙ sym f in
    let l : length (take 8 (drop done values)) ≤ 8 = omega (arith, length-take 8 (drop done values)) in
    let m : 2 ^ length (take 8 (drop done values)) ≤ 2 ^ 8 = pow_mono l in
    let s : packed 1 bs ≡ byte + 2 ^ 8 * packed 1 (drop 8 bs) = packed_split 1 8 bs ∙ ap (λ x. x + 2 ^ 8 * packed 1 (drop 8 bs)) a in
    let q = split_byte (packed 1 bs) byte (packed 1 (drop 8 bs)) s (omega (arith, f, bits_below (take 8 (drop done values)), m)) in
    let k : bytes_for (length values - done) ≡ suc (bytes_for (length values - (done + n))) = omega (arith, e, h) in
    let o : drop 8 bs ≡ drop (done + n) (bits_of values) = dropped (bits_of values) done n (e ∙ ap (λ j. min (j - done) 8) (sym (length_bits values))) (omega (arith, b.within, length_bits values)) in
    record {
      within = omega (arith, e, h);
      bytes = b.bytes ∙ (ap (λ j. out ++ little_endian_bytes j (packed 1 bs)) k ∙ (ap₂ (λ x y. out ++ x ∷ little_endian_bytes (bytes_for (length values - (done + n))) y) q.0 (q.1 ∙ ap (packed 1) o) ∙ (sym (append_assoc out (byte ∷ []) (little_endian_bytes (bytes_for (length values - (done + n))) (packed 1 (drop (done + n) (bits_of values))))) ∙ ap (λ xs. xs ++ little_endian_bytes (bytes_for (length values - (done + n))) (packed 1 (drop (done + n) (bits_of values)))) (sym g))));
    }

pub bools_all : (values : List Bool) (old out : List ℕ) (done : ℕ) → Bools values old out done → length values ≤ done → out ≡ old ++ little_endian_bytes (bytes_for (length values)) (packed 1 (bits_of values))
bools_all values old out done b h =
    let e : bytes_for (length values - done) ≡ 0 = omega (arith, h) in
    sym (b.bytes ∙ (ap (λ j. out ++ little_endian_bytes j (packed 1 (drop done (bits_of values)))) e ∙ append-nil out))

pub bit_is : (b : Bool) → from_bool b ≡ bit_of (bool_value b)
bit_is true = refl
bit_is false = refl

-- ---- casts

abbrev InRoom : ℕ → ℤ → Type 0
InRoom half (pos n) = n < half
InRoom half (negsuc n) = n < half

in_room : (z : ℤ) → in_int32 z ≡ true → InRoom (2 ^ 31) z
in_room (pos n) h = ltb-true n (2 ^ 31) h
in_room (negsuc n) h = let l : n ≤ 2 ^ 31 - 1 = leb-true n (2 ^ 31 - 1) (and_parts _ _ h).0 in omega arith

kept_64 : (z : ℤ) → InRoom (2 ^ 31) z → cast_signed w64 (cast_unsigned w64 z) ≡ z
kept_64 (pos n) h = rw (lt-ltb n (2 ^ 63) (omega (arith, h))) refl
kept_64 (negsuc n) h =
    let e : 2 ^ 64 - suc (2 ^ 64 - suc n) ≡ n = omega (arith, h) in
    rw (le-ltb (2 ^ 64 - suc n) (2 ^ 63) (omega (arith, h)), e) refl

kept_32 : (z : ℤ) → InRoom (2 ^ 31) z → cast_signed w32 (cast_unsigned w32 z) ≡ z
kept_32 (pos n) h = rw (lt-ltb n (2 ^ 31) h) refl
kept_32 (negsuc n) h =
    let e : 2 ^ 32 - suc (2 ^ 32 - suc n) ≡ n = omega (arith, h) in
    rw (le-ltb (2 ^ 32 - suc n) (2 ^ 31) (omega (arith, h)), e) refl

fits_32 : (z : ℤ) → InRoom (2 ^ 31) z → SFits w32 z
fits_32 (pos n) h = record { sfits = h }
fits_32 (negsuc n) h = record { sfits = h }

-- a number that is written as 32 bits
pub narrow : (z : ℤ) → is_writable int32_kind (int_value z) ≡ true → (cast_signed w64 (cast_unsigned w64 z) ≡ z) × (cast_signed w32 (cast_unsigned w32 z) ≡ z) × SFits w32 (cast_signed w64 (cast_unsigned w64 z))
narrow z h =
    let r : InRoom (2 ^ 31) z = in_room z (and_parts _ _ h).0 in
    (kept_64 z r, kept_32 z r, rw (kept_64 z r) (fits_32 z r))

pub on_ok : {T E : Type 0} (r : Result T E) (P : Type 0) → false ≡ is_err r → OnOk r P → P
on_ok (Ok x) P e h = h
on_ok (Err x) P e h = absurd (false≢true e)
