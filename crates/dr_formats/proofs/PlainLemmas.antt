-- PLAIN values that are written are read back.
use Rattle.std.proofs.Common.{◌≡◌, ℕ, suc, ◌*◌, ◌/◌, ◌^◌, ◌≤◌, ◌<◌, List, [], ◌∷◌, ◌++◌, map, length, Bool, true, false, refl, sym, ap, ap₂, ◌∙◌, subst, arith, ℤ, pos, negsuc, true≢false}
use Rattle.std.specs.Prelude.{◌-◌, nat_lt}
use Rattle.std.specs.List.{list_all}
use Rattle.std.specs.Str.{is_utf8}
use Rattle.std.proofs.lemmas.Bool.{ltb-true, lt-ltb, le-ltb, leb-true, and_parts, and_from}
use Rattle.std.proofs.lemmas.List.{length-map}
use Rattle.dr_meaning.specs.Schema.{bool_kind, int32_kind, int64_kind, text_kind}
use Rattle.dr_meaning.specs.Record.{Value, bool_value, int_value, text_value, in_int32, in_int64}
use Rattle.dr_formats.specs.Reading.{Reader, give, ◌>>=◌, bytes_of, IsReadAs}
use Rattle.dr_formats.specs.LittleEndian.{little_endian, little_endian_bytes, unpacked, packed, bytes_for}
use Rattle.dr_formats.specs.Plain.{too_short, from_complement, complement, repeatedly, plain_number, checked_text, plain_text, truth_of_bit, plain_truths, bit_of, plain_number_bytes, plain_text_bytes, joined, plain_bytes, is_writable}
use Rattle.dr_formats.specs.PlainLaws.{WrittenValuesAreRead}
use Rattle.dr_formats.proofs.ReadingLemmas.{spells_then, spells_map, spells_bytes}
use Rattle.dr_formats.proofs.LittleEndianLemmas.{length_little_endian, little_endian_back, are_below, unpacked_bytes}

-- ---- one value after another

spells_repeatedly : {E A : Type 0} (read : Reader E A) (f : A → List ℕ) (join : List A → List ℕ) → join [] ≡ [] → ((v : A) (vs : List A) → join (v ∷ vs) ≡ f v ++ join vs) → (good : A → Bool) → ((v : A) → good v ≡ true → IsReadAs read (f v) v) → (vs : List A) → list_all good vs ≡ true → IsReadAs (repeatedly read (length vs)) (join vs) vs
spells_repeatedly read f join e g good one [] h = rw e (λ rest. refl)
spells_repeatedly read f join e g good one (v ∷ vs) h =
    let p : (good v ≡ true) × (list_all good vs ≡ true) = and_parts _ _ h in
    subst (λ b. IsReadAs (repeatedly read (suc (length vs))) b (v ∷ vs)) (sym (g v vs)) (spells_then read (λ x. repeatedly read (length vs) >>= (λ xs. give (x ∷ xs))) (f v) (join vs) v (v ∷ vs) (one v p.0) (spells_map (repeatedly read (length vs)) (λ xs. v ∷ xs) (join vs) vs (spells_repeatedly read f join e g good one vs p.1)))

-- ---- numbers

abbrev InRoom : ℕ → ℤ → Type 0
InRoom half (pos n) = n < half
InRoom half (negsuc n) = n < half

complement_fits : (bits : ℕ) (z : ℤ) → 2 ^ bits ≡ 2 * 2 ^ (bits - 1) → InRoom (2 ^ (bits - 1)) z → complement bits z < 2 ^ bits
complement_fits bits (pos n) e h = omega (arith, e, h)
complement_fits bits (negsuc n) e h = omega (arith, e, h)

complement_back : (bits : ℕ) (z : ℤ) → 2 ^ bits ≡ 2 * 2 ^ (bits - 1) → InRoom (2 ^ (bits - 1)) z → from_complement bits (complement bits z) ≡ z
complement_back bits (pos n) e h = rw (lt-ltb n (2 ^ (bits - 1)) h) refl
complement_back bits (negsuc n) e h =
    let f : 2 ^ bits - 1 - (2 ^ bits - 1 - n) ≡ n = omega (arith, e, h) in
    rw (le-ltb (2 ^ bits - 1 - n) (2 ^ (bits - 1)) (omega (arith, e, h)), f) refl

spells_number : (bits : ℕ) (z : ℤ) → 2 ^ bits ≡ 2 * 2 ^ (bits - 1) → 2 ^ (8 * (bits / 8)) ≡ 2 ^ bits → InRoom (2 ^ (bits - 1)) z → IsReadAs (plain_number bits) (plain_number_bytes bits (int_value z)) (int_value z)
spells_number bits z e f h =
    let b : List ℕ = little_endian_bytes (bits / 8) (complement bits z) in
    let g : little_endian b ≡ complement bits z = little_endian_back (bits / 8) (complement bits z) (omega (arith, complement_fits bits z e h, f)) in
    let i : from_complement bits (little_endian b) ≡ z = ap (from_complement bits) g ∙ complement_back bits z e h in
    subst (λ x. IsReadAs (plain_number bits) b (int_value x)) i (spells_map (bytes_of too_short (bits / 8)) (λ c. int_value (from_complement bits (little_endian c))) b b (spells_bytes too_short (bits / 8) b (length_little_endian (bits / 8) (complement bits z))))

room_32 : (z : ℤ) → in_int32 z ≡ true → InRoom (2 ^ 31) z
room_32 (pos n) h = ltb-true _ _ h
room_32 (negsuc n) h = let l : n ≤ 2 ^ 31 - 1 = leb-true _ _ (and_parts _ _ h).0 in omega arith

room_64 : (z : ℤ) → in_int64 z ≡ true → InRoom (2 ^ 63) z
room_64 (pos n) h = ltb-true _ _ h
room_64 (negsuc n) h = let l : n ≤ 2 ^ 63 - 1 = leb-true _ _ (and_parts _ _ h).0 in omega arith

spells_int32 : (v : Value) → is_writable int32_kind v ≡ true → IsReadAs (plain_number 32) (plain_number_bytes 32 v) v
spells_int32 (bool_value b) h = absurd (true≢false (sym h))
spells_int32 (int_value z) h = spells_number 32 z refl refl (room_32 z (and_parts _ _ h).0)
spells_int32 (text_value t) h = absurd (true≢false (sym h))

spells_int64 : (v : Value) → is_writable int64_kind v ≡ true → IsReadAs (plain_number 64) (plain_number_bytes 64 v) v
spells_int64 (bool_value b) h = absurd (true≢false (sym h))
spells_int64 (int_value z) h = spells_number 64 z refl refl (room_64 z (and_parts _ _ h).0)
spells_int64 (text_value t) h = absurd (true≢false (sym h))

-- ---- texts

spells_text : (v : Value) → is_writable text_kind v ≡ true → IsReadAs plain_text (plain_text_bytes v) v
spells_text (bool_value b) h = absurd (true≢false (sym h))
spells_text (int_value z) h = absurd (true≢false (sym h))
spells_text (text_value t) h =
    let p : (is_utf8 t ≡ true) × (nat_lt (length t) (2 ^ 32) ≡ true) = and_parts _ _ h in
    let b : List ℕ = little_endian_bytes 4 (length t) in
    let e : little_endian b ≡ length t = little_endian_back 4 (length t) (ltb-true _ _ p.1) in
    let u : IsReadAs (checked_text t) [] (text_value t) = λ rest. rw p.0 refl in
    let r : IsReadAs (bytes_of too_short (little_endian b) >>= checked_text) t (text_value t) = λ rest. rw e (rw (spells_bytes too_short (length t) t refl rest) (u rest)) in
    spells_then (bytes_of too_short 4) (λ c. bytes_of too_short (little_endian c) >>= checked_text) b t b (text_value t) (spells_bytes too_short 4 b (length_little_endian 4 (length t))) r

-- ---- truth values

truth_below : (v : Value) → nat_lt (bit_of v) 2 ≡ true
truth_below (bool_value true) = refl
truth_below (bool_value false) = refl
truth_below (int_value z) = refl
truth_below (text_value t) = refl

truths_below : (vs : List Value) → are_below 1 (map bit_of vs) ≡ true
truths_below [] = refl
truths_below (v ∷ vs) = and_from _ _ (truth_below v) (truths_below vs)

truth_back : (v : Value) → is_writable bool_kind v ≡ true → truth_of_bit (bit_of v) ≡ v
truth_back (bool_value true) h = refl
truth_back (bool_value false) h = refl
truth_back (int_value z) h = absurd (true≢false (sym h))
truth_back (text_value t) h = absurd (true≢false (sym h))

truths_back : (vs : List Value) → list_all (is_writable bool_kind) vs ≡ true → map truth_of_bit (map bit_of vs) ≡ vs
truths_back [] h = refl
truths_back (v ∷ vs) h =
    let p : (is_writable bool_kind v ≡ true) × (list_all (is_writable bool_kind) vs ≡ true) = and_parts _ _ h in
    ap₂ (λ x xs. x ∷ xs) (truth_back v p.0) (truths_back vs p.1)

spells_truths : (vs : List Value) → list_all (is_writable bool_kind) vs ≡ true → IsReadAs (plain_truths (length vs)) (plain_bytes bool_kind vs) vs
spells_truths vs h =
    let n : ℕ = length vs in
    let b : List ℕ = little_endian_bytes (bytes_for n) (packed 1 (map bit_of vs)) in
    let l : length (map bit_of vs) ≡ n = length-map vs bit_of in
    let e : unpacked n 1 (little_endian b) ≡ map bit_of vs = subst (λ (m : ℕ). unpacked m 1 (little_endian b) ≡ map bit_of vs) l (unpacked_bytes 1 (bytes_for n) (map bit_of vs) (truths_below vs) (omega (arith, l))) in
    let g : map truth_of_bit (unpacked n 1 (little_endian b)) ≡ vs = ap (map truth_of_bit) e ∙ truths_back vs h in
    subst (IsReadAs (plain_truths n) b) g (spells_map (bytes_of too_short (bytes_for n)) (λ c. map truth_of_bit (unpacked n 1 (little_endian c))) b b (spells_bytes too_short (bytes_for n) b (length_little_endian (bytes_for n) (packed 1 (map bit_of vs)))))

-- ---- all kinds

pub written_values_are_read : WrittenValuesAreRead
written_values_are_read bool_kind vs h = spells_truths vs h
written_values_are_read int32_kind vs h = spells_repeatedly (plain_number 32) (plain_number_bytes 32) (joined (plain_number_bytes 32)) refl (λ v ws. refl) (is_writable int32_kind) spells_int32 vs h
written_values_are_read int64_kind vs h = spells_repeatedly (plain_number 64) (plain_number_bytes 64) (joined (plain_number_bytes 64)) refl (λ v ws. refl) (is_writable int64_kind) spells_int64 vs h
written_values_are_read text_kind vs h = spells_repeatedly plain_text plain_text_bytes (joined plain_text_bytes) refl (λ v ws. refl) (is_writable text_kind) spells_text vs h
