-- Values read one after another.
use Rattle.std.proofs.Common.{◌≡◌, ℕ, zero, suc, ◌+◌, ◌-◌, ◌*◌, ◌/◌, ◌%◌, ◌^◌, ◌≤◌, ◌<◌, List, [], ◌∷◌, ◌++◌, map, length, take, drop, set, replicate, get_or, Bool, true, false, refl, sym, ap, ap₂, ◌∙◌, subst, arith, append_assoc, Option, Some, None, ◌⊎◌, inl, inr, ℤ, pos, negsuc, Result, Ok, Err}
use Rattle.std.specs.Prelude.{◌==◌, nat_lt, nat_le, if◌then◌else◌, IfSome, is_ok, is_err}
use Rattle.std.specs.Int.{w32, w64, from_le_bytes, cast_signed}
use Rattle.std.specs.Simd.{first_chunks}
use Rattle.std.specs.Str.{IsUtf8, is_utf8, IsCharBoundary}
use Rattle.std.proofs.lemmas.Bool.{le-leb, lt-leb, cases_lt, false≢true}
use Rattle.std.proofs.lemmas.List.{length-drop, length-take-le, take-take, drop-take, drop_more, take_all, append-nil, map_push, map_more, map-append, take_more_set, take_at, length-append, drop-drop}
use Rattle.std.proofs.lemmas.List.Elements.{All-push}
use Rattle.std.proofs.lemmas.Str.{is_utf8-from_IsUtf8, IsUtf8-from_is_utf8, IsUtf8-between}
use Rattle.std.proofs.lemmas.Nat.{pow-add, shr-shr, pow_pos}
use Rattle.std.proofs.Math.Nat.{add-mul-div_left, add-mul-mod_self_left}
use Rattle.dr_meaning.specs.Record.{Value, bool_value, int_value, text_value}
use Rattle.dr_formats.specs.Reading.{Reading, got, refused, Reader, give, goes_on, ◌>>=◌}
use Rattle.dr_formats.specs.LittleEndian.{little_endian, unpacked, bytes_for}
use Rattle.dr_formats.specs.Plain.{PlainFault, too_short, bad_text, from_complement, repeatedly, plain_number, plain_text, truth_of_bit, plain_truths, plain_read}
use Rattle.dr_formats.proofs.LittleEndianLemmas.{unpacked_below}
use Rattle.dr_bytes.specs.Numbers.{IsFault}
use Rattle.dr_bytes.proofs.BitLemmas.{AreBytes, number_behind, number_split, unpacked_more, word_of, word_of_four}
use Rattle.dr_plain.specs.declared.values.TextPlace.{TextPlace}
use Rattle.dr_plain.specs.Views.{Appends, BeginsWith, int64_of, text_at, text_values, AreTexts, IsText}
use Rattle.dr_plain.specs.Pieces.{bits_of}

-- ---- one value, and then the others

abbrev pub in_front : {E A : Type 0} → List A → Reading E (List A) → Reading E (List A)
in_front vs (got ws rest) = got (vs ++ ws) rest
in_front vs (refused e rest) = refused e rest

cons_front : {E A : Type 0} (x : A) (r : Reading E (List A)) → goes_on r (λ xs. give (x ∷ xs)) ≡ in_front (x ∷ []) r
cons_front x (got ws rest) = refl
cons_front x (refused e rest) = refl

pub front_front : {E A : Type 0} (us vs : List A) (r : Reading E (List A)) → in_front us (in_front vs r) ≡ in_front (us ++ vs) r
front_front us vs (got ws rest) = ap (λ xs. got xs rest) (sym (append_assoc us vs ws))
front_front us vs (refused e rest) = refl

pub none_front : {E A : Type 0} (r : Reading E (List A)) → r ≡ in_front [] r
none_front (got ws rest) = refl
none_front (refused e rest) = refl

pub one_more : {E A : Type 0} (read : Reader E A) (n : ℕ) (bs rest : List ℕ) (x : A) → read bs ≡ got x rest → repeatedly read (suc n) bs ≡ in_front (x ∷ []) (repeatedly read n rest)
one_more read n bs rest x e = ap (λ r. goes_on r (λ y. repeatedly read n >>= (λ xs. give (y ∷ xs)))) e ∙ cons_front x (repeatedly read n rest)

pub first_refused : {E A : Type 0} (read : Reader E A) (n : ℕ) (bs rest : List ℕ) (e : E) → read bs ≡ refused e rest → repeatedly read (suc n) bs ≡ refused e rest
first_refused read n bs rest e h = ap (λ r. goes_on r (λ y. repeatedly read n >>= (λ xs. give (y ∷ xs)))) h

pub appends : (r : Reading PlainFault (List Value)) (vs before after : List Value) (rest : List ℕ) → r ≡ got vs rest → after ≡ before ++ vs → Appends (plain_read r) before after
appends r vs before after rest e h = subst (λ q. Appends (plain_read q) before after) (sym e) h

pub faults : {A : Type 0} (r : Reading PlainFault A) (f : PlainFault) (rest : List ℕ) → r ≡ refused f rest → IsFault f r
faults r f rest e = subst (IsFault f) (sym e) refl

-- ---- numbers

abbrev pub number_at : ℕ → List ℕ → Value
number_at bits b = int_value (from_complement bits (little_endian b))

number_read : (bits : ℕ) (bs : List ℕ) → bits / 8 ≤ length bs → plain_number bits bs ≡ got (number_at bits (take (bits / 8) bs)) (drop (bits / 8) bs)
number_read bits bs h = rw (le-leb (bits / 8) (length bs) h) refl

number_short : (bits : ℕ) (bs : List ℕ) → length bs < bits / 8 → plain_number bits bs ≡ refused too_short []
number_short bits bs h = rw (lt-leb (bits / 8) (length bs) h) refl

pub numbers_read : (bits n : ℕ) (bs : List ℕ) → n * (bits / 8) ≤ length bs → repeatedly (plain_number bits) n bs ≡ got (map (number_at bits) (first_chunks (bits / 8) n bs)) (drop (n * (bits / 8)) bs)
numbers_read bits zero bs h = let z : zero * (bits / 8) ≡ 0 = omega arith in ap (λ k. got [] (drop k bs)) (sym z)
numbers_read bits (suc n) bs h =
    let k : ℕ = bits / 8 in
    let z : suc n * k ≡ n * k + k = omega arith in
    one_more (plain_number bits) n bs (drop k bs) (number_at bits (take k bs)) (number_read bits bs (omega (arith, h)))
    ∙ (ap (in_front (number_at bits (take k bs) ∷ [])) (numbers_read bits n (drop k bs) (omega (arith, h, length-drop k bs)))
    ∙ ap (got (map (number_at bits) (first_chunks k (suc n) bs))) (drop-drop (n * k) k bs ∙ ap (λ j. drop j bs) (omega arith)))

short_by : (bits n : ℕ) (bs : List ℕ) → length bs < suc n * (bits / 8) → ((bits / 8 ≤ length bs) → (rest : List ℕ) × (repeatedly (plain_number bits) n (drop (bits / 8) bs) ≡ refused too_short rest)) → (length bs < bits / 8) ⊎ (bits / 8 ≤ length bs) → (rest : List ℕ) × (repeatedly (plain_number bits) (suc n) bs ≡ refused too_short rest)
short_by bits n bs h r (inl l) = ([], first_refused (plain_number bits) n bs [] too_short (number_short bits bs l))
short_by bits n bs h r (inr l) =
    let k : ℕ = bits / 8 in
    ((r l).0, one_more (plain_number bits) n bs (drop k bs) (number_at bits (take k bs)) (number_read bits bs l) ∙ ap (in_front (number_at bits (take k bs) ∷ [])) (r l).1)

pub numbers_short : (bits n : ℕ) (bs : List ℕ) → length bs < n * (bits / 8) → (rest : List ℕ) × (repeatedly (plain_number bits) n bs ≡ refused too_short rest)
numbers_short bits zero bs h = absurd (omega (arith, h))
numbers_short bits (suc n) bs h = short_by bits n bs h (λ l. numbers_short bits n (drop (bits / 8) bs) (omega (arith, h, l, length-drop (bits / 8) bs))) (cases_lt (length bs) (bits / 8))

chunk_length : (k n i : ℕ) (xs : List ℕ) → i < n → n * k ≤ length xs → length (get_or (first_chunks k n xs) i []) ≡ k
chunk_length k zero i xs h l = absurd (omega (arith, h))
chunk_length k (suc n) zero xs h l = length-take-le k xs (omega (arith, l))
chunk_length k (suc n) (suc i) xs h l = chunk_length k n i (drop k xs) (omega (arith, h)) (omega (arith, l, length-drop k xs))

chunks_front : (k n : ℕ) (xs : List ℕ) → first_chunks k n (take (n * k) xs) ≡ first_chunks k n xs
chunks_front k zero xs = refl
chunks_front k (suc n) xs =
    let e : suc n * k ≡ k + n * k = omega arith in
    let f : take k (take (k + n * k) xs) ≡ take k xs = take-take k (k + n * k) xs (omega arith) in
    let g : drop k (take (k + n * k) xs) ≡ take (n * k) (drop k xs) = drop-take k (n * k) xs in
    rw e (ap₂ (λ c cs. c ∷ cs) f (ap (first_chunks k n) g ∙ chunks_front k n (drop k xs)))

pub chunks_of : (k n m : ℕ) (xs : List ℕ) → 0 < k → m ≡ n * k → m ≤ length xs → first_chunks k (length (take m xs) / k) (take m xs) ≡ first_chunks k n xs
chunks_of k n m xs h e l =
    let f : length (take m xs) ≡ n * k = length-take-le m xs l ∙ e in
    let g : n * k / k ≡ n = add_none k n h in
    ap (λ j. first_chunks k (j / k) (take m xs)) f ∙ (ap (λ j. first_chunks k j (take m xs)) g ∙ (ap (λ j. first_chunks k n (take j xs)) e ∙ chunks_front k n xs))
  where
    add_none : (k n : ℕ) → 0 < k → n * k / k ≡ n
    add_none k n h =
        let e : 0 + k * n ≡ n * k = omega arith in
        let f : 0 / k + n ≡ n = omega (arith, h) in
        ap (λ j. j / k) (sym e) ∙ (add-mul-div_left 0 n {y = k} h ∙ f)

signed_is : (x m : ℕ) (b : Bool) → (if b then pos x else negsuc (m - suc x)) ≡ (if b then pos x else negsuc (m - 1 - x))
signed_is x m true = refl
signed_is x m false = ap negsuc (omega arith)

pub eight_is : (c : List ℕ) → length c ≡ 8 → cast_signed w64 (from_le_bytes w64 c) ≡ from_complement 64 (little_endian c)
eight_is c l = ap (cast_signed w64) (word_of c l) ∙ signed_is (little_endian c) (2 ^ 64) (nat_lt (little_endian c) (2 ^ 63))

pub four_is : (c : List ℕ) → length c ≡ 4 → cast_signed w32 (from_le_bytes w32 c) ≡ from_complement 32 (little_endian c)
four_is c l = ap (cast_signed w32) (word_of_four c l) ∙ signed_is (little_endian c) (2 ^ 32) (nat_lt (little_endian c) (2 ^ 31))

-- the loop that reads numbers: so many chunks are numbers
abbrev pub Numbers : ℕ → List (List ℕ) → List ℤ → List ℤ → ℕ → Type 0
Numbers bits chunks old out i = map int_value out ≡ map int_value old ++ map (number_at bits) (take i chunks)

pub numbers_more : (bits k n : ℕ) (bs : List ℕ) (chunks : List (List ℕ)) (old out new : List ℤ) (i : ℕ) (z : ℤ) → chunks ≡ first_chunks k n bs → n * k ≤ length bs → i < n → i < length chunks → (length (get_or chunks i []) ≡ k → z ≡ from_complement bits (little_endian (get_or chunks i []))) → new ≡ out ++ z ∷ [] → Numbers bits chunks old out i → Numbers bits chunks old new (i + 1)
numbers_more bits k n bs chunks old out new i z e l h m f g s =
    let c : length (get_or chunks i []) ≡ k = ap (λ xs. length (get_or xs i [])) e ∙ chunk_length k n i bs h l in
    ap (map int_value) g ∙ (map_push int_value out z ∙ (ap₂ (λ xs x. xs ++ x ∷ []) s (ap int_value (f c)) ∙ (append_assoc (map int_value old) (map (number_at bits) (take i chunks)) (number_at bits (get_or chunks i []) ∷ []) ∙ ap (λ xs. map int_value old ++ xs) (sym (map_more (number_at bits) chunks i [] m)))))

pub numbers_all : (bits n : ℕ) (bs : List ℕ) (chunks : List (List ℕ)) (old out : List ℤ) (i : ℕ) → chunks ≡ first_chunks (bits / 8) n bs → n * (bits / 8) ≤ length bs → length chunks ≤ i → Numbers bits chunks old out i → Appends (plain_read (repeatedly (plain_number bits) n bs)) (map int_value old) (map int_value out)
numbers_all bits n bs chunks old out i e l h s =
    appends (repeatedly (plain_number bits) n bs) (map (number_at bits) (first_chunks (bits / 8) n bs)) (map int_value old) (map int_value out) (drop (n * (bits / 8)) bs) (numbers_read bits n bs l) (s ∙ ap (λ xs. map int_value old ++ map (number_at bits) xs) (take_all i chunks h ∙ e))

-- numbers of eight bytes that are put behind others all at once
filled_are : (n : ℕ) (bs : List ℕ) → n * 8 ≤ length bs → map int_value (map int64_of (first_chunks 8 n bs)) ≡ map (number_at 64) (first_chunks 8 n bs)
filled_are zero bs h = refl
filled_are (suc n) bs h = ap₂ (λ v vs. v ∷ vs) (ap int_value (eight_is (take 8 bs) (length-take-le 8 bs (omega (arith, h))))) (filled_are n (drop 8 bs) (omega (arith, h, length-drop 8 bs)))

pub numbers_filled : (n : ℕ) (bs : List ℕ) (chunks : List (List ℕ)) (old out : List ℤ) → chunks ≡ first_chunks 8 n bs → n * 8 ≤ length bs → out ≡ old ++ map int64_of chunks → Appends (plain_read (repeatedly (plain_number 64) n bs)) (map int_value old) (map int_value out)
numbers_filled n bs chunks old out e l g =
    appends (repeatedly (plain_number 64) n bs) (map (number_at 64) (first_chunks 8 n bs)) (map int_value old) (map int_value out) (drop (n * 8) bs) (numbers_read 64 n bs l) (ap (map int_value) g ∙ (map-append int_value old (map int64_of chunks) ∙ ap (λ xs. map int_value old ++ xs) (ap (λ cs. map int_value (map int64_of cs)) e ∙ filled_are n bs l)))

pub fill_more : (chunks : List (List ℕ)) (out : List ℤ) (i : ℕ) (z : ℤ) → i < length chunks → i < length out → z ≡ int64_of (get_or chunks i []) → take i out ≡ map int64_of (take i chunks) → take (i + 1) (set out i z) ≡ map int64_of (take (i + 1) chunks)
fill_more chunks out i z h l e s = take_more_set out i z l ∙ (ap₂ (λ xs x. xs ++ x ∷ []) s e ∙ sym (map_more int64_of chunks i [] h))

-- what was put into the room behind the others
pub put_behind : (old D R F P Q : List ℤ) (z : ℤ) (l k start count : ℕ) → D ≡ R → R ≡ take (start + count) old ++ replicate k z → start ≡ length old → l ≡ start + count → length F ≡ count → take l ((take start D ++ (F ++ P)) ++ Q) ≡ old ++ F
put_behind old D R F P Q z l k start count d r s m f =
    let a : take start D ≡ old = ap (take start) (d ∙ (r ∙ ap (λ xs. xs ++ replicate k z) (take_all (start + count) old (omega (arith, s))))) ∙ take_at old (replicate k z) start (sym s) in
    ap (λ xs. take l ((xs ++ (F ++ P)) ++ Q)) a ∙ (ap (λ xs. take l (xs ++ Q)) (sym (append_assoc old F P)) ∙ (ap (take l) (append_assoc (old ++ F) P Q) ∙ take_at (old ++ F) (P ++ Q) l (length-append old F ∙ omega (arith, s, m, f))))

pub where_no_error : {X T E : Type 0} (r : Result T E) (new some old : X) → false ≡ is_err r → new ≡ (if is_ok r then some else old) → new ≡ some
where_no_error (Ok t) new some old h e = e
where_no_error (Err t) new some old h e = absurd (false≢true h)

-- ---- truth values

pub bit_at : (bs : List ℕ) (i : ℕ) → AreBytes bs → i / 8 < length bs → little_endian bs / 2 ^ (i * 1) % 2 ^ 1 ≡ get_or bs (i / 8) 0 / 2 ^ (i % 8) % 2
bit_at bs i h l =
    let q : ℕ = i / 8 in
    let s : ℕ = i % 8 in
    let b : ℕ = get_or bs q 0 in
    let z : ℕ = little_endian (drop (q + 1) bs) in
    let e : i * 1 ≡ 8 * q + s = omega arith in
    let f : little_endian bs / 2 ^ (i * 1) ≡ little_endian (drop q bs) / 2 ^ s = ap (λ k. little_endian bs / 2 ^ k) e ∙ (sym (shr-shr (little_endian bs) (8 * q) s) ∙ ap (λ x. x / 2 ^ s) (number_behind q bs h)) in
    let g : little_endian (drop q bs) ≡ b + 256 * z = ap little_endian (drop_more bs q 0 l) in
    let n : 8 ≡ s + (1 + (7 - s)) = omega arith in
    let p : 2 ^ 8 ≡ 2 ^ s * (2 ^ 1 * 2 ^ (7 - s)) = ap (λ k. 2 ^ k) n ∙ (pow-add 2 s (1 + (7 - s)) ∙ ap (λ k. 2 ^ s * k) (pow-add 2 1 (7 - s))) in
    let pz : 2 ^ 8 * z ≡ 2 ^ s * (2 ^ 1 * 2 ^ (7 - s)) * z = ap (λ k. k * z) p in
    let m : b + 256 * z ≡ b + 2 ^ s * (2 * (2 ^ (7 - s) * z)) = omega (arith, pz) in
    rw (f, g, m, add-mul-div_left b (2 * (2 ^ (7 - s) * z)) {y = 2 ^ s} (pow_pos s)) (add-mul-mod_self_left (b / 2 ^ s) 2 (2 ^ (7 - s) * z))

-- the loop that reads truth values: those of the bits from the first on are there
abbrev pub Truths : List ℕ → List Bool → List Bool → ℕ → ℕ → Type 0
Truths bs old out start i = map bool_value out ≡ map bool_value old ++ bits_of bs start (i - start)

pub truths_more : (bs : List ℕ) (old out new : List Bool) (start i : ℕ) (b : Bool) → AreBytes bs → start ≤ i → i / 8 < length bs → b ≡ (get_or bs (i / 8) 0 / 2 ^ (i % 8) % 2 == 1) → new ≡ out ++ b ∷ [] → Truths bs old out start i → Truths bs old new start (i + 1)
truths_more bs old out new start i b h o l e g s =
    let k : ℕ = i - start in
    let y : ℕ = little_endian bs / 2 ^ start in
    let n : i + 1 - start ≡ k + 1 = omega (arith, o) in
    let j : start + k * 1 ≡ i * 1 = omega (arith, o) in
    let z : y / 2 ^ (k * 1) ≡ little_endian bs / 2 ^ (i * 1) = shr-shr (little_endian bs) start (k * 1) ∙ ap (λ m. little_endian bs / 2 ^ m) j in
    let v : truth_of_bit (y / 2 ^ (k * 1) % 2 ^ 1) ≡ bool_value b = ap truth_of_bit (ap (λ m. m % 2 ^ 1) z ∙ bit_at bs i h l) ∙ ap bool_value (sym e) in
    let u : bits_of bs start (i + 1 - start) ≡ bits_of bs start k ++ truth_of_bit (y / 2 ^ (k * 1) % 2 ^ 1) ∷ [] = ap (bits_of bs start) n ∙ (ap (map truth_of_bit) (unpacked_more k 1 1 y) ∙ map-append truth_of_bit (unpacked k 1 y) (unpacked 1 1 (y / 2 ^ (k * 1)))) in
    ap (map bool_value) g ∙ (map_push bool_value out b ∙ (ap₂ (λ xs x. xs ++ x ∷ []) s (sym v) ∙ (append_assoc (map bool_value old) (bits_of bs start k) (truth_of_bit (y / 2 ^ (k * 1) % 2 ^ 1) ∷ []) ∙ ap (λ xs. map bool_value old ++ xs) (sym u))))

-- the first values are in the first bytes
pub unpacked_in : (a w k : ℕ) (bs : List ℕ) → a * w ≤ 8 * k → unpacked a w (little_endian (take k bs)) ≡ unpacked a w (little_endian bs)
unpacked_in a w k bs h =
    let z : ℕ = little_endian (drop k bs) in
    let g : 8 * k ≡ w * a + (8 * k - a * w) = omega (arith, h) in
    let p : 2 ^ (8 * k) ≡ 2 ^ (w * a) * 2 ^ (8 * k - a * w) = ap (λ j. 2 ^ j) g ∙ pow-add 2 (w * a) (8 * k - a * w) in
    let q : 2 ^ (8 * k) * z ≡ 2 ^ (w * a) * 2 ^ (8 * k - a * w) * z = ap (λ j. j * z) p in
    let s : little_endian bs ≡ little_endian (take k bs) + 2 ^ (w * a) * (2 ^ (8 * k - a * w) * z) = omega (arith, number_split k bs, q) in
    sym (ap (unpacked a w) s ∙ unpacked_below a w (little_endian (take k bs)) (2 ^ (8 * k - a * w) * z))

-- so many truth values are those of the first bits
pub truths_read : (n : ℕ) (bs : List ℕ) → bytes_for n ≤ length bs → plain_truths n bs ≡ got (bits_of bs 0 n) (drop (bytes_for n) bs)
truths_read n bs h =
    let i : n * 1 ≤ 8 * bytes_for n = omega arith in
    let x : ℕ = little_endian bs in
    let z : x ≡ x / 2 ^ 0 = omega arith in
    truths_at (nat_le (bytes_for n) (length bs)) n bs (le-leb (bytes_for n) (length bs) h) ∙ ap (λ vs. got (map truth_of_bit vs) (drop (bytes_for n) bs)) (unpacked_in n 1 (bytes_for n) bs i ∙ ap (unpacked n 1) z)
  where
    truths_at : (t : Bool) (n : ℕ) (bs : List ℕ) → t ≡ true
        → goes_on (if t then got (take (bytes_for n) bs) (drop (bytes_for n) bs) else refused too_short []) (λ b. give (map truth_of_bit (unpacked n 1 (little_endian b))))
        ≡ got (map truth_of_bit (unpacked n 1 (little_endian (take (bytes_for n) bs)))) (drop (bytes_for n) bs)
    truths_at true n bs e = refl
    truths_at false n bs e = absurd (cc)

pub truths_all : (n k : ℕ) (bs : List ℕ) (old out : List Bool) → k ≡ bytes_for n → k ≤ length bs → Truths bs old out 0 n → Appends (plain_read (plain_truths n bs)) (map bool_value old) (map bool_value out)
truths_all n k bs old out e h s =
    let z : n - 0 ≡ n = omega arith in
    appends (plain_truths n bs) (bits_of bs 0 n) (map bool_value old) (map bool_value out) (drop (bytes_for n) bs) (truths_read n bs (omega (arith, e, h))) (s ∙ ap (λ j. map bool_value old ++ bits_of bs 0 j) z)

pub truths_short : (n : ℕ) (bs : List ℕ) → length bs < bytes_for n → IsFault too_short (plain_truths n bs)
truths_short n bs h = rw (lt-leb (bytes_for n) (length bs) h) refl

-- ---- texts

pub text_read : (bs : List ℕ) (n : ℕ) → 4 ≤ length bs → n ≡ little_endian (take 4 bs) → n ≤ length (drop 4 bs) → IsUtf8 (take n (drop 4 bs)) → plain_text bs ≡ got (text_value (take n (drop 4 bs))) (drop n (drop 4 bs))
text_read bs n h e l u = rw (le-leb 4 (length bs) h, ← e, le-leb n (length (drop 4 bs)) l, is_utf8-from_IsUtf8 (take n (drop 4 bs)) u) refl

pub text_headless : (bs : List ℕ) → length bs < 4 → IsFault too_short (plain_text bs)
text_headless bs h = rw (lt-leb 4 (length bs) h) refl

pub text_short : (bs : List ℕ) (n : ℕ) → 4 ≤ length bs → n ≡ little_endian (take 4 bs) → length (drop 4 bs) < n → IsFault too_short (plain_text bs)
text_short bs n h e l = rw (le-leb 4 (length bs) h, ← e, lt-leb n (length (drop 4 bs)) l) refl

not_utf8 : (t : List ℕ) → (IsUtf8 t → ⊥) → is_utf8 t ≡ false
not_utf8 t h = by (is_utf8 t) refl
  where
    by : (b : Bool) → is_utf8 t ≡ b → b ≡ false
    by true e = absurd (h (IsUtf8-from_is_utf8 t e))
    by false e = refl

pub text_bad : (bs : List ℕ) (n : ℕ) → 4 ≤ length bs → n ≡ little_endian (take 4 bs) → n ≤ length (drop 4 bs) → (IsUtf8 (take n (drop 4 bs)) → ⊥) → IsFault bad_text (plain_text bs)
text_bad bs n h e l u = rw (le-leb 4 (length bs) h, ← e, le-leb n (length (drop 4 bs)) l, not_utf8 (take n (drop 4 bs)) u) refl

-- the loop that reads texts: so many are read, the others are in the bytes left
pub record TextsRead (bytes : List ℕ) (n : ℕ) (old out : List TextPlace) (i : ℕ) (left : List ℕ) : Type 0 where
  pub within : i ≤ n
  pub read : List Value
  pub rest : repeatedly plain_text n bytes ≡ in_front read (repeatedly plain_text (n - i) left)
  pub values : text_values bytes out ≡ text_values bytes old ++ read
  pub begins : BeginsWith old out
  pub texts : AreTexts bytes old → AreTexts bytes out

pub no_texts_read : (bytes : List ℕ) (n : ℕ) (old : List TextPlace) → TextsRead bytes n old old 0 bytes
no_texts_read bytes n old = record {
  within = omega arith;
  read = [];
  rest = let e : n - 0 ≡ n = omega arith in rw e (none_front (repeatedly plain_text n bytes));
  values = sym (append-nil (text_values bytes old));
  begins = ([], sym (append-nil old));
  texts = λ h. h;
}

pub text_more : (bytes : List ℕ) (n : ℕ) (old out new : List TextPlace) (i : ℕ) (left rest : List ℕ) (p : TextPlace) → TextsRead bytes n old out i left → i < n → plain_text left ≡ got (text_value (text_at bytes p)) rest → IsText bytes p → new ≡ out ++ p ∷ [] → TextsRead bytes n old new (i + 1) rest
text_more bytes n old out new i left rest p t h e u f =
    let m : n - i ≡ suc (n - (i + 1)) = omega (arith, h) in
    let v : Value = text_value (text_at bytes p) in
    record {
      within = omega (arith, h);
      read = t.read ++ v ∷ [];
      rest = t.rest ∙ (ap (λ k. in_front t.read (repeatedly plain_text k left)) m ∙ (ap (in_front t.read) (one_more plain_text (n - (i + 1)) left rest v e) ∙ front_front t.read (v ∷ []) (repeatedly plain_text (n - (i + 1)) rest)));
      values = ap (text_values bytes) f ∙ (map_push (λ q. text_value (text_at bytes q)) out p ∙ (ap (λ xs. xs ++ v ∷ []) t.values ∙ append_assoc (text_values bytes old) t.read (v ∷ [])));
      begins = (t.begins.0 ++ p ∷ [], f ∙ (ap (λ xs. xs ++ p ∷ []) t.begins.1 ∙ append_assoc old t.begins.0 (p ∷ [])));
      texts = λ k. subst (AreTexts bytes) (sym f) (All-push (IsText bytes) out p (t.texts k) u);
    }

pub texts_all : (bytes : List ℕ) (n : ℕ) (old out : List TextPlace) (i : ℕ) (left : List ℕ) → TextsRead bytes n old out i left → n ≤ i → Appends (plain_read (repeatedly plain_text n bytes)) (text_values bytes old) (text_values bytes out)
texts_all bytes n old out i left t h =
    let e : n - i ≡ 0 = omega (arith, h) in
    appends (repeatedly plain_text n bytes) t.read (text_values bytes old) (text_values bytes out) left (t.rest ∙ (ap (λ k. in_front t.read (repeatedly plain_text k left)) e ∙ ap (λ xs. got xs left) (append-nil t.read))) t.values

fault_behind : (vs : List Value) (f : PlainFault) (n : ℕ) (left : List ℕ) (r : Reading PlainFault Value) → plain_text left ≡ r → IsFault f r → IsFault f (in_front vs (repeatedly plain_text (suc n) left))
fault_behind vs f n left (got x rest) e h = absurd h
fault_behind vs f n left (refused g rest) e h = faults (in_front vs (repeatedly plain_text (suc n) left)) f rest (ap (in_front vs) (first_refused plain_text n left rest g e) ∙ ap (λ x. refused x rest) h)

pub texts_fault : (bytes : List ℕ) (n : ℕ) (old out : List TextPlace) (i : ℕ) (left : List ℕ) (f : PlainFault) → TextsRead bytes n old out i left → i < n → IsFault f (plain_text left) → IsFault f (repeatedly plain_text n bytes)
texts_fault bytes n old out i left f t h k =
    let m : n - i ≡ suc (n - (i + 1)) = omega (arith, h) in
    subst (IsFault f) (sym (t.rest ∙ ap (λ j. in_front t.read (repeatedly plain_text j left)) m)) (fault_behind t.read f (n - (i + 1)) left (plain_text left) refl k)

pub if_some_weaker : {X : Type 0} (o : Option X) (P Q : X → Type 0) → ((x : X) → P x → Q x) → IfSome o P → IfSome o Q
if_some_weaker None P Q h k = tt
if_some_weaker (Some x) P Q h k = h x k

pub not_less : (n m : ℕ) → (m < n → ⊥) → n ≤ m
not_less n m h = omega (arith, h)

-- a text that stands at this place
pub text_here : (bytes L D R : List ℕ) (n start : ℕ) → 4 ≤ length L → n ≡ little_endian (take 4 L) → D ≡ drop 4 L → drop start bytes ≡ D → n ≤ length D → R ≡ drop n D → IsUtf8 (take n (drop start bytes)) → plain_text L ≡ got (text_value (take n (drop start bytes))) R
text_here bytes L D R n start h e d s l r u =
    let t : drop start bytes ≡ drop 4 L = s ∙ d in
    rw (t, r, d) (text_read L n h e (omega (arith, l, ap length d)) (subst (λ xs. IsUtf8 (take n xs)) t u))

pub bad_text_here : (bytes L D : List ℕ) (n start : ℕ) → 4 ≤ length L → n ≡ little_endian (take 4 L) → D ≡ drop 4 L → drop start bytes ≡ D → n ≤ length D → (IsUtf8 (take n (drop start bytes)) → ⊥) → IsFault bad_text (plain_text L)
bad_text_here bytes L D n start h e d s l u = text_bad L n h e (omega (arith, l, ap length d)) (λ k. u (subst (λ xs. IsUtf8 (take n xs)) (sym (s ∙ d)) k))

pub length_chunks : (k n : ℕ) (xs : List ℕ) → length (first_chunks k n xs) ≡ n
length_chunks k zero xs = refl
length_chunks k (suc n) xs = ap suc (length_chunks k n (drop k xs))

pub at_some : {X : Type 0} (o : Option X) (x : X) (P : X → Type 0) → o ≡ Some x → IfSome o P → P x
at_some o x P e h = subst (λ p. IfSome p P) e h

-- a part of a text, at whose ends characters begin
pub part_of_text : (text bytes : List ℕ) (start end : ℕ) → text ≡ bytes → IsUtf8 bytes → start ≤ end → IsCharBoundary text start → IsCharBoundary text end → IsUtf8 (take (end - start) (drop start bytes))
part_of_text text bytes start end e u h a b = IsUtf8-between bytes start end u h (subst (λ xs. IsCharBoundary xs start) e a) (subst (λ xs. IsCharBoundary xs end) e b)

pub same_part : (bytes : List ℕ) (start n : ℕ) → IsUtf8 (take (start + n - start) (drop start bytes)) → IsUtf8 (take n (drop start bytes))
same_part bytes start n u = let e : start + n - start ≡ n = omega arith in subst (λ k. IsUtf8 (take k (drop start bytes))) e u

pub no_part : (bytes : List ℕ) (start n : ℕ) → (IsUtf8 (take (start + n - start) (drop start bytes)) → ⊥) → IsUtf8 (take n (drop start bytes)) → ⊥
no_part bytes start n u h = let e : start + n - start ≡ n = omega arith in u (subst (λ k. IsUtf8 (take k (drop start bytes))) (sym e) h)

-- after a push that was no error
pub pushed_on : {X T E : Type 0} (r : Result T E) (old new : List X) (x : X) → false ≡ is_err r → new ≡ (if is_ok r then old ++ x ∷ [] else old) → new ≡ old ++ x ∷ []
pushed_on (Ok t) old new x h e = e
pushed_on (Err t) old new x h e = absurd (false≢true h)
