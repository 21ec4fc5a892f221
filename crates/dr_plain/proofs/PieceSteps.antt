-- Values in PLAIN, a piece behind others.
use Rattle.std.proofs.Common.{◌≡◌, ℕ, zero, suc, ◌+◌, ◌-◌, ◌*◌, ◌/◌, ◌^◌, ◌≤◌, ◌<◌, List, [], ◌∷◌, ◌++◌, map, length, take, drop, Bool, true, false, refl, sym, ap, ap₂, ◌∙◌, subst, arith, append_assoc, Result, Ok, Err}
use Rattle.std.specs.Prelude.{◌↔◌, OnOk, IsErr, is_ok}
use Rattle.std.specs.Str.{is_utf8}
use Rattle.std.proofs.lemmas.Bool.{le-leb, lt-leb, false≢true}
use Rattle.std.proofs.lemmas.List.{length-append, length-map, map-append, take_at}
use Rattle.std.proofs.Math.Seq.{drop-append_seam}
use Rattle.dr_meaning.specs.Record.{Value, text_value}
use Rattle.dr_formats.specs.Reading.{Reading, got, refused, Reader, goes_on, bytes_of, IsReadAs}
use Rattle.dr_formats.specs.LittleEndian.{little_endian, unpacked}
use Rattle.dr_formats.specs.Plain.{PlainFault, too_short, bad_text, repeatedly, checked_text, plain_text, truth_of_bit}
use Rattle.dr_formats.proofs.LocalLemmas.{local_then, local_bytes}
use Rattle.dr_formats.proofs.ReadingLemmas.{not_refused, same_got}
use Rattle.dr_bytes.specs.Numbers.{IsFault}
use Rattle.dr_bytes.proofs.BitLemmas.{unpacked_more, length_unpacked}
use Rattle.dr_bytes.proofs.FaultLemmas.{is_fault, was_fault}
use Rattle.dr_plain.specs.Pieces.{bits_of}
use Rattle.dr_plain.specs.FrontTexts.{text_bytes, AreFrontTexts, Skips}
use Rattle.dr_plain.proofs.ReadSteps.{in_front, front_front, none_front, one_more, first_refused, not_less}

-- ---- a piece behind others

-- so many are read, and then the others behind them
pub read_behind : {E A : Type 0} (read : Reader E A) (n m : ℕ) (bs rest : List ℕ) (xs : List A) → repeatedly read n bs ≡ got xs rest → repeatedly read (n + m) bs ≡ in_front xs (repeatedly read m rest)
read_behind {E} {A} read zero m bs rest xs e =
    let none : List A = [] in
    let s = same_got {E = E} none xs bs rest e in
    let z : zero + m ≡ m = omega arith in
    ap (λ k. repeatedly read k bs) z ∙ (ap (repeatedly read m) s.1 ∙ (none_front (repeatedly read m rest) ∙ ap (λ ys. in_front ys (repeatedly read m rest)) s.0))
read_behind read (suc n) m bs rest xs e =
    let z : suc n + m ≡ suc (n + m) = omega arith in
    ap (λ k. repeatedly read k bs) z ∙ by_first read n m bs rest xs (λ cs ys f. read_behind read n m cs rest ys f) (read bs) refl e
  where
    behind : {E A : Type 0} (read : Reader E A) (n m : ℕ) (x : A) (cs rest : List ℕ) (xs : List A) → ((ys : List A) → repeatedly read n cs ≡ got ys rest → repeatedly read (n + m) cs ≡ in_front ys (repeatedly read m rest))
        → (r : Reading E (List A)) → repeatedly read n cs ≡ r → in_front (x ∷ []) r ≡ got xs rest → in_front (x ∷ []) (repeatedly read (n + m) cs) ≡ in_front xs (repeatedly read m rest)
    behind read n m x cs rest xs h (refused e p) g f = absurd (not_refused e p xs rest f)
    behind {E} read n m x cs rest xs h (got ys p) g f =
        let s = same_got {E = E} (x ∷ ys) xs p rest f in
        ap (in_front (x ∷ [])) (h ys (g ∙ ap (got ys) s.1)) ∙ (front_front (x ∷ []) ys (repeatedly read m rest) ∙ ap (λ zs. in_front zs (repeatedly read m rest)) s.0)

    by_first : {E A : Type 0} (read : Reader E A) (n m : ℕ) (bs rest : List ℕ) (xs : List A) → ((cs : List ℕ) (ys : List A) → repeatedly read n cs ≡ got ys rest → repeatedly read (n + m) cs ≡ in_front ys (repeatedly read m rest))
        → (r : Reading E A) → read bs ≡ r → repeatedly read (suc n) bs ≡ got xs rest → repeatedly read (suc (n + m)) bs ≡ in_front xs (repeatedly read m rest)
    by_first read n m bs rest xs h (refused e p) g f = absurd (not_refused e p xs rest (sym (first_refused read n bs p e g) ∙ f))
    by_first read n m bs rest xs h (got x p) g f =
        one_more read (n + m) bs p x g ∙ behind read n m x p rest xs (h p) (repeatedly read n p) refl (sym (one_more read n bs p x g) ∙ f)

-- one more
pub read_more : {E A : Type 0} (read : Reader E A) (n : ℕ) (bs rest behind : List ℕ) (xs : List A) (x : A) → repeatedly read n bs ≡ got xs rest → read rest ≡ got x behind → repeatedly read (n + 1) bs ≡ got (xs ++ x ∷ []) behind
read_more read n bs rest behind xs x e f = read_behind read n 1 bs rest xs e ∙ ap (in_front xs) (one_more read 0 rest behind x f)

-- a fault behind others
pub fault_behind : {E A : Type 0} (read : Reader E A) (n m : ℕ) (bs rest : List ℕ) (xs : List A) (f : E) → repeatedly read n bs ≡ got xs rest → IsFault f (repeatedly read m rest) → IsFault f (repeatedly read (n + m) bs)
fault_behind read n m bs rest xs f e h =
    let w = was_fault f (repeatedly read m rest) h in
    is_fault f (repeatedly read (n + m) bs) w.0 (read_behind read n m bs rest xs e ∙ ap (in_front xs) w.1)

-- ---- truth values

-- those of bits, and of the bits behind
pub bits_behind : (bs : List ℕ) (n m : ℕ) → bits_of bs 0 n ++ bits_of bs n m ≡ bits_of bs 0 (n + m)
bits_behind bs n m =
    let x : ℕ = little_endian bs in
    let z : x / 2 ^ 0 ≡ x = omega arith in
    let k : n * 1 ≡ n = omega arith in
    let e : x / 2 ^ n ≡ x / 2 ^ 0 / 2 ^ (n * 1) = ap₂ (λ a b. a / 2 ^ b) (sym z) (sym k) in
    sym (ap (map truth_of_bit) (unpacked_more n m 1 (x / 2 ^ 0) ∙ ap (λ y. unpacked n 1 (x / 2 ^ 0) ++ unpacked m 1 y) (sym e)) ∙ map-append truth_of_bit (unpacked n 1 (x / 2 ^ 0)) (unpacked m 1 (x / 2 ^ n)))

-- how many they are
pub bits_length : (bs : List ℕ) (start n : ℕ) → length (bits_of bs start n) ≡ n
bits_length bs start n = length-map (unpacked n 1 (little_endian bs / 2 ^ start)) truth_of_bit ∙ length_unpacked n 1 (little_endian bs / 2 ^ start)

-- ---- texts

by_bytes : (r : Reading PlainFault (List ℕ)) (second : List ℕ → Reader PlainFault (List ℕ)) → goes_on r (λ b bs. goes_on (second b bs) checked_text) ≡ goes_on (goes_on r second) checked_text
by_bytes (got b bs) second = refl
by_bytes (refused e bs) second = refl

-- a text is its bytes, if they are UTF-8
pub plain_by_bytes : (bs : List ℕ) → plain_text bs ≡ goes_on (text_bytes bs) checked_text
plain_by_bytes bs = by_bytes (bytes_of too_short 4 bs) (λ b. bytes_of too_short (little_endian b))

local_text : (bs t rest : List ℕ) → text_bytes bs ≡ got t rest → (front : List ℕ) × (bs ≡ front ++ rest) × IsReadAs text_bytes front t
local_text bs t rest e = local_then (bytes_of too_short 4) (λ b. bytes_of too_short (little_endian b)) (local_bytes too_short 4) (λ b. local_bytes too_short (little_endian b)) bs t rest e

-- whether the bytes of a text are there
pub skips : {A E : Type 0} (L M R : List ℕ) (n : ℕ) (r : Result A E) (t : Bool) → t ≡ is_ok r → 4 ≤ length L → n ≡ little_endian (take 4 L) → M ≡ drop 4 L → OnOk r (R ≡ drop n M) → IsErr r ↔ (length M < n) → Skips L R t
skips L M R n (Ok a) t e h f g b s =
    let l : n ≤ length (drop 4 L) = omega (arith, not_less n (length M) (λ k. false≢true (s.1 k)), ap length g) in
    subst (Skips L R) (sym e) (take n (drop 4 L), rw (le-leb 4 (length L) h, ← f, le-leb n (length (drop 4 L)) l) (ap (got (take n (drop 4 L))) (sym (b ∙ ap (drop n) g))))
skips L M R n (Err x) t e h f g b s =
    let l : length (drop 4 L) < n = omega (arith, s.0 refl, ap length g) in
    subst (Skips L R) (sym e) (rw (le-leb 4 (length L) h, ← f, lt-leb n (length (drop 4 L)) l) refl)

-- what is read of bytes alone is read of them with others behind
abbrev Alike : ℕ → List ℕ → List ℕ → Type 0
Alike n piece left = ((vs : List Value) (q : List ℕ) → repeatedly plain_text n piece ≡ got vs q → repeatedly plain_text n (piece ++ left) ≡ got vs left)
    × ((f : PlainFault) → IsFault f (repeatedly plain_text n piece) → IsFault f (repeatedly plain_text n (piece ++ left)))

got_behind : {E A : Type 0} (x : A) (r s : Reading E (List A)) (vs : List A) (q left : List ℕ) → ((us : List A) (p : List ℕ) → r ≡ got us p → s ≡ got us left) → in_front (x ∷ []) r ≡ got vs q → in_front (x ∷ []) s ≡ got vs left
got_behind x (refused e p) s vs q left h f = absurd (not_refused e p vs q f)
got_behind {E} x (got us p) s vs q left h f = ap (in_front (x ∷ [])) (h us p refl) ∙ ap (λ ys. got ys left) (same_got {E = E} (x ∷ us) vs p q f).0

faulty_behind : {E A : Type 0} (x : A) (f : E) (r s : Reading E (List A)) → (IsFault f r → IsFault f s) → IsFault f (in_front (x ∷ []) r) → IsFault f (in_front (x ∷ []) s)
faulty_behind x f (got us p) s h k = absurd k
faulty_behind x f (refused e p) (got us q) h k = absurd (h k)
faulty_behind x f (refused e p) (refused g q) h k = h k

-- one text in front of them, which is UTF-8 or not
alike_by : (b : Bool) (n : ℕ) (h t piece left : List ℕ) → is_utf8 t ≡ b → IsReadAs text_bytes h t → Alike n piece left → Alike (suc n) (h ++ piece) left
alike_by true n h t piece left u r a =
    let v : Value = text_value t in
    let e : (other : List ℕ) → plain_text (h ++ other) ≡ got v other = λ other. plain_by_bytes (h ++ other) ∙ (ap (λ x. goes_on x checked_text) (r other) ∙ rw u refl) in
    let f : (other : List ℕ) → repeatedly plain_text (suc n) (h ++ other) ≡ in_front (v ∷ []) (repeatedly plain_text n other) = λ other. one_more plain_text n (h ++ other) other v (e other) in (
      λ vs q g. ap (repeatedly plain_text (suc n)) (append_assoc h piece left) ∙ (f (piece ++ left) ∙ got_behind v (repeatedly plain_text n piece) (repeatedly plain_text n (piece ++ left)) vs q left a.0 (sym (f piece) ∙ g)),
      λ x g. subst (IsFault x) (sym (ap (repeatedly plain_text (suc n)) (append_assoc h piece left) ∙ f (piece ++ left))) (faulty_behind v x (repeatedly plain_text n piece) (repeatedly plain_text n (piece ++ left)) (a.1 x) (subst (IsFault x) (f piece) g)),
    )
alike_by false n h t piece left u r a =
    let e : (other : List ℕ) → plain_text (h ++ other) ≡ refused bad_text other = λ other. plain_by_bytes (h ++ other) ∙ (ap (λ x. goes_on x checked_text) (r other) ∙ rw u refl) in
    let f : (other : List ℕ) → repeatedly plain_text (suc n) (h ++ other) ≡ refused bad_text other = λ other. first_refused plain_text n (h ++ other) other bad_text (e other) in (
      λ vs q g. absurd (not_refused bad_text piece vs q (sym (f piece) ∙ g)),
      λ x g. subst (IsFault x) (sym (ap (repeatedly plain_text (suc n)) (append_assoc h piece left) ∙ f (piece ++ left))) (subst (IsFault x) (f piece) g),
    )

-- the bytes of so many texts
abbrev FrontOf : ℕ → List ℕ → List ℕ → Type 0
FrontOf n bs left = (piece : List ℕ) × (bs ≡ piece ++ left) × Alike n piece left

front_behind : (n : ℕ) (t bs cs left : List ℕ) (ts : List (List ℕ)) → text_bytes bs ≡ got t cs → ((us : List (List ℕ)) → repeatedly text_bytes n cs ≡ got us left → FrontOf n cs left)
    → (r : Reading PlainFault (List (List ℕ))) → repeatedly text_bytes n cs ≡ r → in_front (t ∷ []) r ≡ got ts left → FrontOf (suc n) bs left
front_behind n t bs cs left ts e h (refused x p) g f = absurd (not_refused x p ts left f)
front_behind n t bs cs left ts e h (got us p) g f =
    let s = same_got {E = PlainFault} (t ∷ us) ts p left f in
    let k = h us (g ∙ ap (got us) s.1) in
    let l = local_text bs t cs e in
    (l.0 ++ k.0, l.1 ∙ (ap (λ x. l.0 ++ x) k.1 ∙ sym (append_assoc l.0 k.0 left)), alike_by (is_utf8 t) n l.0 t k.0 left refl l.2 k.2)

front_first : (n : ℕ) (bs left : List ℕ) (ts : List (List ℕ)) → ((cs : List ℕ) (us : List (List ℕ)) → repeatedly text_bytes n cs ≡ got us left → FrontOf n cs left)
    → (r : Reading PlainFault (List ℕ)) → text_bytes bs ≡ r → repeatedly text_bytes (suc n) bs ≡ got ts left → FrontOf (suc n) bs left
front_first n bs left ts h (refused x p) e f = absurd (not_refused x p ts left (sym (first_refused text_bytes n bs p x e) ∙ f))
front_first n bs left ts h (got t cs) e f = front_behind n t bs cs left ts e (h cs) (repeatedly text_bytes n cs) refl (sym (one_more text_bytes n bs cs t e) ∙ f)

front_of : (n : ℕ) (bs left : List ℕ) (ts : List (List ℕ)) → repeatedly text_bytes n bs ≡ got ts left → FrontOf n bs left
front_of zero bs left ts e =
    let none : List (List ℕ) = [] in
    let s = same_got {E = PlainFault} none ts bs left e in
    let no : List Value = [] in
    ([], s.1, (λ vs q g. ap (λ us. got us left) (same_got {E = PlainFault} no vs [] q g).0, λ f g. absurd g))
front_of (suc n) bs left ts e = front_first n bs left ts (λ cs us f. front_of n cs left us f) (text_bytes bs) refl e

-- where so many texts end, the bytes before are theirs
pub front_there : (n place : ℕ) (bs left piece : List ℕ) (ts : List (List ℕ)) → repeatedly text_bytes n bs ≡ got ts left → place + length left ≡ length bs → piece ≡ take place bs → AreFrontTexts n bs piece
front_there n place bs left piece ts e l p =
    let f = front_of n bs left ts e in
    let k : length f.0 ≡ place = omega (arith, l, ap length f.1, length-append f.0 left) in
    let same : piece ≡ f.0 = p ∙ (ap (take place) f.1 ∙ take_at f.0 left place k) in
    let gone : drop (length piece) bs ≡ left = ap₂ (λ x y. drop (length x) y) same f.1 ∙ drop-append_seam f.0 left in
    record {
      texts = λ vs q g. ap (repeatedly plain_text n) f.1 ∙ (f.2.0 vs q (ap (repeatedly plain_text n) (sym same) ∙ g) ∙ ap (got vs) (sym gone));
      fault = λ x g. subst (λ y. IsFault x (repeatedly plain_text n y)) (sym f.1) (f.2.1 x (subst (λ y. IsFault x (repeatedly plain_text n y)) same g));
      within = omega (arith, ap length same, k, l);
    }

-- texts that are read have bytes
checked_bytes : (t bs q : List ℕ) (v : Value) (b : Bool) → is_utf8 t ≡ b → checked_text t bs ≡ got v q → bs ≡ q
checked_bytes t bs q v true u e = (same_got {E = PlainFault} (text_value t) v bs q (rw u at e)).1
checked_bytes t bs q v false u e = absurd (not_refused bad_text bs v q (rw u at e))

one_skipped : (v : Value) (q : List ℕ) (r : Reading PlainFault (List ℕ)) → goes_on r checked_text ≡ got v q → (t : List ℕ) × (r ≡ got t q)
one_skipped v q (refused e p) h = absurd (not_refused e p v q h)
one_skipped v q (got t p) h = (t, ap (got t) (checked_bytes t p q v (is_utf8 t) refl h))

skipped_behind : (n : ℕ) (v : Value) (bs cs q : List ℕ) (vs : List Value) → plain_text bs ≡ got v cs → ((us : List Value) → repeatedly plain_text n cs ≡ got us q → (ts : List (List ℕ)) × (repeatedly text_bytes n cs ≡ got ts q))
    → (r : Reading PlainFault (List Value)) → repeatedly plain_text n cs ≡ r → in_front (v ∷ []) r ≡ got vs q → (ts : List (List ℕ)) × (repeatedly text_bytes (suc n) bs ≡ got ts q)
skipped_behind n v bs cs q vs e h (refused x p) g f = absurd (not_refused x p vs q f)
skipped_behind n v bs cs q vs e h (got us p) g f =
    let s = same_got {E = PlainFault} (v ∷ us) vs p q f in
    let k = h us (g ∙ ap (got us) s.1) in
    let t = one_skipped v cs (text_bytes bs) (sym (plain_by_bytes bs) ∙ e) in
    (t.0 ∷ k.0, one_more text_bytes n bs cs t.0 t.1 ∙ ap (in_front (t.0 ∷ [])) k.1)

skipped_first : (n : ℕ) (bs q : List ℕ) (vs : List Value) → ((cs : List ℕ) (us : List Value) → repeatedly plain_text n cs ≡ got us q → (ts : List (List ℕ)) × (repeatedly text_bytes n cs ≡ got ts q))
    → (r : Reading PlainFault Value) → plain_text bs ≡ r → repeatedly plain_text (suc n) bs ≡ got vs q → (ts : List (List ℕ)) × (repeatedly text_bytes (suc n) bs ≡ got ts q)
skipped_first n bs q vs h (refused x p) e f = absurd (not_refused x p vs q (sym (first_refused plain_text n bs p x e) ∙ f))
skipped_first n bs q vs h (got v cs) e f = skipped_behind n v bs cs q vs e (h cs) (repeatedly plain_text n cs) refl (sym (one_more plain_text n bs cs v e) ∙ f)

texts_skipped : (n : ℕ) (bs q : List ℕ) (vs : List Value) → repeatedly plain_text n bs ≡ got vs q → (ts : List (List ℕ)) × (repeatedly text_bytes n bs ≡ got ts q)
texts_skipped zero bs q vs e = let none : List Value = [] in ([], ap (got []) (same_got {E = PlainFault} none vs bs q e).1)
texts_skipped (suc n) bs q vs e = skipped_first n bs q vs (λ cs us f. texts_skipped n cs q us f) (plain_text bs) refl e

-- where the bytes of one are missing there are fewer texts, and all bytes are taken
pub front_missing : (n i : ℕ) (bs left : List ℕ) (ts : List (List ℕ)) → repeatedly text_bytes i bs ≡ got ts left → i < n → IsFault too_short (text_bytes left) → AreFrontTexts n bs bs
front_missing n i bs left ts e l h =
    let k : n ≡ i + suc (n - (i + 1)) = omega (arith, l) in
    let w = was_fault too_short (text_bytes left) h in
    let f : repeatedly text_bytes n bs ≡ refused too_short w.0 = ap (λ m. repeatedly text_bytes m bs) k ∙ (read_behind text_bytes i (suc (n - (i + 1))) bs left ts e ∙ ap (in_front ts) (first_refused text_bytes (n - (i + 1)) left w.0 too_short w.1)) in
    record {
      texts = λ vs q g. let s = texts_skipped n bs q vs g in absurd (not_refused too_short w.0 s.0 q (sym f ∙ s.1));
      fault = λ x g. g;
      within = omega arith;
    }
