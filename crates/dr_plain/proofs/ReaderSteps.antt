-- A reader of values in PLAIN: what each piece leaves.
use Rattle.std.specs.Prelude.{None}
use Rattle.std.proofs.Common.{◌≡◌, ℕ, ◌+◌, ◌-◌, ◌*◌, ◌/◌, ◌^◌, ◌≤◌, ◌<◌, List, [], ◌++◌, map, length, drop, refl, sym, ap, ap₂, ◌∙◌, subst, arith, ◌⊎◌, inl, inr}
use Rattle.std.proofs.lemmas.Bool.{cases_lt}
use Rattle.std.proofs.lemmas.List.{drop_all, drop-drop, length-append, length-drop, length-map}
use Rattle.dr_meaning.specs.Schema.{Kind, bool_kind, int32_kind, int64_kind, text_kind}
use Rattle.dr_meaning.specs.Record.{Value, text_value}
use Rattle.dr_formats.specs.Reading.{Reading, got, refused, Reader}
use Rattle.dr_formats.specs.LittleEndian.{unpacked, little_endian, bytes_for}
use Rattle.dr_formats.specs.Plain.{too_short, repeatedly, plain_number, plain_text, truth_of_bit, plain_truths, plain, plain_read}
use Rattle.dr_formats.specs.Plain as formats
use Rattle.dr_formats.proofs.ReadingLemmas.{same_got}
use Rattle.dr_bytes.specs.Numbers.{IsFault}
use Rattle.dr_bytes.proofs.BitLemmas.{length_unpacked}
use Rattle.std.specs.Simd.{first_chunks}
use Rattle.dr_plain.specs.declared.values.PlainFault.{PlainFault}
use Rattle.dr_plain.specs.declared.values.TextPlace.{TextPlace}
use Rattle.dr_plain.specs.declared.plain_reader.PlainReader.{PlainReader}
use Rattle.dr_plain.specs.Views.{Appends, IsFaultOf, text_at, text_values}
use Rattle.dr_plain.specs.Pieces.{bits_of, refused_of, HasGiven}
use Rattle.dr_plain.specs.FrontTexts.{AreFrontTexts}
use Rattle.dr_plain.proofs.ReadSteps.{in_front, number_at, numbers_read, numbers_short, length_chunks, truths_read, truths_short}
use Rattle.dr_plain.proofs.CountSteps.{repeated_count}
use Rattle.dr_plain.proofs.PieceSteps.{read_behind, fault_behind, bits_behind}

-- ---- a piece behind what was given

-- so many more are read behind those that were given
pub given_more : {A : Type 0} (read : Reader formats.PlainFault A) (n place : ℕ) (bytes rest piece behind : List ℕ) (given more : List A) → repeatedly read (length given) bytes ≡ got given rest → rest ≡ drop place bytes → piece ≡ drop place bytes
    → repeatedly read n piece ≡ got more behind → length more ≡ n → repeatedly read (length (given ++ more)) bytes ≡ got (given ++ more) behind
given_more read n place bytes rest piece behind given more e s p f l =
    let z : length (given ++ more) ≡ length given + n = length-append given more ∙ ap (λ k. length given + k) l in
    ap (λ k. repeatedly read k bytes) z
    ∙ (read_behind read (length given) n bytes rest given e ∙ ap (in_front given) (ap (repeatedly read n) (s ∙ sym p) ∙ f))

-- the fault of the bytes behind them
pub given_fault : {A : Type 0} (read : Reader formats.PlainFault A) (n place : ℕ) (bytes rest piece : List ℕ) (given : List A) (f : formats.PlainFault) → repeatedly read (length given) bytes ≡ got given rest → rest ≡ drop place bytes → piece ≡ drop place bytes
    → IsFault f (repeatedly read n piece) → IsFault f (repeatedly read (length given + n) bytes)
given_fault read n place bytes rest piece given f e s p h = fault_behind read (length given) n bytes rest given f e (subst (λ q. IsFault f (repeatedly read n q)) (p ∙ sym s) h)

-- ---- numbers

-- the numbers that joined others
abbrev Joined : ℕ → ℕ → List ℕ → List Value → List Value → Type 0
Joined bits n piece before after = (more : List Value) × (length more ≡ n) × (after ≡ before ++ more) × (repeatedly (plain_number bits) n piece ≡ got more (drop (n * (bits / 8)) piece)) × (n * (bits / 8) ≤ length piece)

joined_by : (bits n : ℕ) (piece : List ℕ) (before after : List Value) → Appends (plain_read (repeatedly (plain_number bits) n piece)) before after → (length piece < n * (bits / 8)) ⊎ (n * (bits / 8) ≤ length piece) → Joined bits n piece before after
joined_by bits n piece before after h (inl l) =
    let s = numbers_short bits n piece l in
    absurd (subst (λ r. Appends (plain_read r) before after) s.1 h)
joined_by bits n piece before after h (inr l) =
    let vs : List Value = map (number_at bits) (first_chunks (bits / 8) n piece) in
    let e = numbers_read bits n piece l in
    (vs, length-map (first_chunks (bits / 8) n piece) (number_at bits) ∙ length_chunks (bits / 8) n piece, subst (λ r. Appends (plain_read r) before after) e h, e, l)

pub numbers_joined : (bits n : ℕ) (piece : List ℕ) (before after : List Value) → Appends (plain_read (repeatedly (plain_number bits) n piece)) before after
    → (more : List Value) × (length more ≡ n) × (after ≡ before ++ more) × (repeatedly (plain_number bits) n piece ≡ got more (drop (n * (bits / 8)) piece)) × (n * (bits / 8) ≤ length piece)
numbers_joined bits n piece before after h = joined_by bits n piece before after h (cases_lt (length piece) (n * (bits / 8)))

-- numbers of 32 bits
pub int32s_more : (n : ℕ) (bytes piece : List ℕ) (given before after : List Value) (r new : PlainReader) → HasGiven int32_kind bytes given r → piece ≡ drop r.place bytes → Appends (plain_read (plain int32_kind n piece)) before after → drop new.place bytes ≡ drop (n * 4) piece → refused_of new ≡ refused_of r
    → (more : List Value) × (length more ≡ n) × (after ≡ before ++ more) × HasGiven int32_kind bytes (given ++ more) new
int32s_more n bytes piece given before after r new h p a e u =
    let j = numbers_joined 32 n piece before after a in (
      j.0,
      j.1,
      j.2,
      record {
        rest = drop (n * 4) piece;
        read = given_more (plain_number 32) n r.place bytes h.rest piece (drop (n * 4) piece) given j.0 h.read h.stands p j.3 j.1;
        stands = sym e;
        unrefused = u ∙ h.unrefused;
      },
    )

pub int64s_more : (n : ℕ) (bytes piece : List ℕ) (given before after : List Value) (r new : PlainReader) → HasGiven int64_kind bytes given r → piece ≡ drop r.place bytes → Appends (plain_read (plain int64_kind n piece)) before after → drop new.place bytes ≡ drop (n * 8) piece → refused_of new ≡ refused_of r
    → (more : List Value) × (length more ≡ n) × (after ≡ before ++ more) × HasGiven int64_kind bytes (given ++ more) new
int64s_more n bytes piece given before after r new h p a e u =
    let j = numbers_joined 64 n piece before after a in (
      j.0,
      j.1,
      j.2,
      record {
        rest = drop (n * 8) piece;
        read = given_more (plain_number 64) n r.place bytes h.rest piece (drop (n * 8) piece) given j.0 h.read h.stands p j.3 j.1;
        stands = sym e;
        unrefused = u ∙ h.unrefused;
      },
    )

pub int32s_fault : (e : PlainFault) (n : ℕ) (bytes piece : List ℕ) (given : List Value) (r : PlainReader) → HasGiven int32_kind bytes given r → piece ≡ drop r.place bytes → IsFaultOf e (plain int32_kind n piece) → IsFaultOf e (plain int32_kind (length given + n) bytes)
int32s_fault PlainFault.NoMemory n bytes piece given r h p w = tt
int32s_fault PlainFault.Short n bytes piece given r h p w = given_fault (plain_number 32) n r.place bytes h.rest piece given too_short h.read h.stands p w
int32s_fault PlainFault.BadText n bytes piece given r h p w = given_fault (plain_number 32) n r.place bytes h.rest piece given formats.bad_text h.read h.stands p w

pub int64s_fault : (e : PlainFault) (n : ℕ) (bytes piece : List ℕ) (given : List Value) (r : PlainReader) → HasGiven int64_kind bytes given r → piece ≡ drop r.place bytes → IsFaultOf e (plain int64_kind n piece) → IsFaultOf e (plain int64_kind (length given + n) bytes)
int64s_fault PlainFault.NoMemory n bytes piece given r h p w = tt
int64s_fault PlainFault.Short n bytes piece given r h p w = given_fault (plain_number 64) n r.place bytes h.rest piece given too_short h.read h.stands p w
int64s_fault PlainFault.BadText n bytes piece given r h p w = given_fault (plain_number 64) n r.place bytes h.rest piece given formats.bad_text h.read h.stands p w

-- ---- truth values

pub bools_more : (n : ℕ) (bytes : List ℕ) (given before after : List Value) (r new : PlainReader) → HasGiven bool_kind bytes given r → bytes_for (r.place + n) ≤ length bytes → after ≡ before ++ bits_of bytes r.place n → new.place ≡ r.place + n → refused_of new ≡ refused_of r
    → (more : List Value) × (length more ≡ n) × (after ≡ before ++ more) × HasGiven bool_kind bytes (given ++ more) new
bools_more n bytes given before after r new h l a e u =
    let m : ℕ = length given in
    let more : List Value = bits_of bytes r.place n in
    let j : length more ≡ n = length-map (unpacked n 1 (little_endian bytes / 2 ^ r.place)) truth_of_bit ∙ length_unpacked n 1 (little_endian bytes / 2 ^ r.place) in
    let there : plain_truths m bytes ≡ got (bits_of bytes 0 m) (drop (bytes_for m) bytes) = truths_read m bytes (omega (arith, l, h.stands)) in
    let same : bits_of bytes 0 m ≡ given = got_same (bits_of bytes 0 m) given (plain_truths m bytes) (drop (bytes_for m) bytes) h.rest there h.read in
    let z : length (given ++ more) ≡ r.place + n = length-append given more ∙ ap₂ (λ x y. x + y) (sym h.stands) j in (
      more,
      j,
      a,
      record {
        rest = drop (bytes_for (r.place + n)) bytes;
        read = ap (λ k. plain_truths k bytes) z ∙ (truths_read (r.place + n) bytes l ∙ ap (λ vs. got vs (drop (bytes_for (r.place + n)) bytes)) (sym (bits_behind bytes r.place n) ∙ ap (λ vs. vs ++ more) (ap (bits_of bytes 0) h.stands ∙ same)));
        stands = e ∙ sym z;
        unrefused = u ∙ h.unrefused;
      },
    )
  where
    got_same : (xs ys : List Value) (r : Reading formats.PlainFault (List Value)) (p q : List ℕ) → r ≡ got xs p → r ≡ got ys q → xs ≡ ys
    got_same xs ys r p q e f = (same_got {E = formats.PlainFault} xs ys p q (sym e ∙ f)).0

pub bools_fault : (n : ℕ) (bytes : List ℕ) (given : List Value) (r : PlainReader) → HasGiven bool_kind bytes given r → length bytes < bytes_for (r.place + n) → IsFault too_short (plain bool_kind (length given + n) bytes)
bools_fault n bytes given r h l = subst (λ k. IsFault too_short (plain_truths (k + n) bytes)) h.stands (truths_short (r.place + n) bytes l)

-- ---- texts

pub texts_more : (n : ℕ) (bytes behind piece : List ℕ) (given : List Value) (places : List TextPlace) (r new : PlainReader) → HasGiven text_kind bytes given r → behind ≡ drop r.place bytes → AreFrontTexts n behind piece
    → Appends (plain_read (plain text_kind n piece)) [] (text_values piece places) → drop new.place bytes ≡ drop (length piece * 1) behind → refused_of new ≡ refused_of r → (length places ≡ n) × HasGiven text_kind bytes (given ++ text_values piece places) new
texts_more n bytes behind piece given places r new h p f a e u =
    let s = was_appended (repeatedly plain_text n piece) (text_values piece places) a in
    let l : length (text_values piece places) ≡ n = repeated_count plain_text n piece (text_values piece places) s.0 s.1 in
    let z : length piece * 1 ≡ length piece = omega arith in (
      sym (length-map places (λ q. text_value (text_at piece q))) ∙ l,
      record {
        rest = drop (length piece) behind;
        read = given_more plain_text n r.place bytes h.rest behind (drop (length piece) behind) given (text_values piece places) h.read h.stands p (f.texts (text_values piece places) s.0 s.1) l;
        stands = sym (e ∙ ap (λ k. drop k behind) z);
        unrefused = u ∙ h.unrefused;
      },
    )
  where
    was_appended : (r : Reading formats.PlainFault (List Value)) (vs : List Value) → Appends (plain_read r) [] vs → (rest : List ℕ) × (r ≡ got vs rest)
    was_appended (refused e q) vs a = absurd a
    was_appended (got us q) vs a = (q, ap (λ xs. got xs q) (sym a))

pub texts_fault : (e : PlainFault) (n : ℕ) (bytes behind piece : List ℕ) (given : List Value) (r : PlainReader) → HasGiven text_kind bytes given r → behind ≡ drop r.place bytes → AreFrontTexts n behind piece → IsFaultOf e (plain text_kind n piece)
    → IsFaultOf e (plain text_kind (length given + n) bytes)
texts_fault PlainFault.NoMemory n bytes behind piece given r h p f w = tt
texts_fault PlainFault.Short n bytes behind piece given r h p f w = given_fault plain_text n r.place bytes h.rest behind given too_short h.read h.stands p (f.fault too_short w)
texts_fault PlainFault.BadText n bytes behind piece given r h p f w = given_fault plain_text n r.place bytes h.rest behind given formats.bad_text h.read h.stands p (f.fault formats.bad_text w)

-- how many places there are
pub texts_count : (n : ℕ) (piece : List ℕ) (places : List TextPlace) → Appends (plain_read (plain text_kind n piece)) [] (text_values piece places) → length places ≡ n
texts_count n piece places a = by_read (repeatedly plain_text n piece) refl a
  where
    by_read : (r : Reading formats.PlainFault (List Value)) → repeatedly plain_text n piece ≡ r → Appends (plain_read r) [] (text_values piece places) → length places ≡ n
    by_read (refused e q) f a = absurd a
    by_read (got us q) f a = sym (length-map places (λ q. text_value (text_at piece q))) ∙ (ap length a ∙ repeated_count plain_text n piece us q f)

-- ---- how many values joined others, and a reader that gave nothing

pub joined_count : {A : Type 0} (f : A → Value) (n : ℕ) (old new : List A) (more : List Value) → map f new ≡ map f old ++ more → length more ≡ n → length new ≡ length old + n
joined_count f n old new more e l =
    sym (length-map new f) ∙ (ap length e ∙ (length-append (map f old) more ∙ ap₂ (λ x y. x + y) (length-map old f) l))

pub nothing_given : (k : Kind) (bytes : List ℕ) (r : PlainReader) → r.place ≡ 0 → refused_of r ≡ None → HasGiven k bytes [] r
nothing_given bool_kind bytes r e u = record { rest = drop (bytes_for 0) bytes; read = truths_read 0 bytes (omega arith); stands = e; unrefused = u }
nothing_given int32_kind bytes r e u = record { rest = bytes; read = refl; stands = ap (λ k. drop k bytes) (sym e); unrefused = u }
nothing_given int64_kind bytes r e u = record { rest = bytes; read = refl; stands = ap (λ k. drop k bytes) (sym e); unrefused = u }
nothing_given text_kind bytes r e u = record { rest = bytes; read = refl; stands = ap (λ k. drop k bytes) (sym e); unrefused = u }

-- the place behind so many more bytes
pub place_behind : (place m p : ℕ) (bytes rest : List ℕ) → rest ≡ drop place bytes → m ≤ length rest → p ≡ length bytes - (length rest - m) → drop p bytes ≡ drop m rest
place_behind place m p bytes rest e l f = by_place (cases_lt (length bytes) place)
  where
    by_place : (length bytes < place) ⊎ (place ≤ length bytes) → drop p bytes ≡ drop m rest
    by_place (inl h) =
        let z : length rest ≡ 0 = omega (arith, ap length e, length-drop place bytes, h) in
        drop_all p bytes (omega (arith, f, z, l)) ∙ sym (drop_all m rest (omega (arith, z)))
    by_place (inr h) =
        let z : p ≡ place + m = omega (arith, ap length e, length-drop place bytes, h, l, f) in
        ap (λ k. drop k bytes) z ∙ (sym (drop-drop m place bytes) ∙ ap (drop m) (sym e))
