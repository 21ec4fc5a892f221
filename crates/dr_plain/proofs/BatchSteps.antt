-- Texts that are read many at once.
use Rattle.std.proofs.Common.{◌≡◌, ℕ, zero, suc, ◌+◌, ◌-◌, ◌*◌, ◌≤◌, ◌<◌, List, [], ◌∷◌, ◌++◌, map, length, take, drop, set, get_or, Bool, true, false, ltb, ltb-true, refl, sym, ap, ap₂, ◌∙◌, subst, arith}
use Rattle.std.specs.Prelude.{◌&&◌}
use Rattle.std.specs.List.{All, AllByRecursion}
use Rattle.std.specs.Str.{IsAscii, IsUtf8, IsCharBoundary}
use Rattle.std.proofs.lemmas.Bool.{le-leb, false≢true}
use Rattle.std.proofs.lemmas.List.{length-map, length-take-le, take-take, drop-take, map_push, take_more_set}
use Rattle.std.proofs.lemmas.List.Elements.{All-nil, All-push, All-more, All-weaker, recursion_from_All}
use Rattle.std.proofs.lemmas.Str.{is_utf8-from_IsUtf8, IsUtf8-from_ascii, IsAscii-take, IsAscii-drop}
use Rattle.std.proofs.lemmas.Str.Ascii.{IsAscii-more}
use Rattle.dr_meaning.specs.Schema.{text_kind}
use Rattle.dr_meaning.specs.Record.{Value, text_value}
use Rattle.dr_formats.specs.Reading.{Reading, got, refused, goes_on}
use Rattle.dr_formats.specs.LittleEndian.{little_endian}
use Rattle.dr_formats.specs.Plain.{PlainFault, repeatedly, checked_text, plain_text}
use Rattle.dr_formats.proofs.ReadingLemmas.{not_refused, same_got}
use Rattle.dr_plain.specs.declared.values.TextPlace.{TextPlace}
use Rattle.dr_plain.specs.declared.plain_reader.PlainReader.{PlainReader}
use Rattle.dr_plain.specs.Views.{AreTexts, IsText, text_at, text_values}
use Rattle.dr_plain.specs.Pieces.{refused_of, HasGiven}
use Rattle.dr_plain.specs.FrontTexts.{text_bytes, AreWithin}
use Rattle.dr_plain.proofs.ReadSteps.{in_front, one_more, first_refused, part_of_text, same_part}
use Rattle.dr_plain.proofs.PieceSteps.{read_more, plain_by_bytes}
use Rattle.dr_plain.proofs.ReaderSteps.{given_more}

-- ---- one text

-- its bytes stand behind its length
pub text_found : (bytes L D R : List ℕ) (n start : ℕ) → 4 ≤ length L → n ≡ little_endian (take 4 L) → D ≡ drop 4 L → drop start bytes ≡ D → n ≤ length D → R ≡ drop n D → text_bytes L ≡ got (take n (drop start bytes)) R
text_found bytes L D R n start h e d s l r =
    let t : drop start bytes ≡ drop 4 L = s ∙ d in
    let m : n ≤ length (drop 4 L) = omega (arith, l, ap length d) in
    rw (t, r, d) (rw (le-leb 4 (length L) h, ← e, le-leb n (length (drop 4 L)) m) refl)

and_both : (a b : Bool) → (a && b) ≡ true → (a ≡ true) × (b ≡ true)
and_both true b e = (refl, e)
and_both false b e = absurd (false≢true e)

-- a part of a text between characters
pub text_between : (all : List ℕ) (p : TextPlace) (a b : Bool) → IsUtf8 all → p.start + p.length ≤ length all → (a ≡ true → IsCharBoundary all p.start) → (b ≡ true → IsCharBoundary all (p.start + p.length)) → (a && b) ≡ true → IsText all p
text_between all p a b u l f g e =
    let t = and_both a b e in
    (l, same_part all p.start p.length (part_of_text all all p.start (p.start + p.length) refl u (omega arith) (f t.0) (g t.1)))

-- parts of ASCII bytes are texts
pub ascii_texts : (bytes : List ℕ) (ps : List TextPlace) → IsAscii bytes → AreWithin (length bytes) ps → AreTexts bytes ps
ascii_texts bytes ps a w = All-weaker (λ (p : TextPlace). p.start + p.length ≤ length bytes) (IsText bytes)
    (λ p l. (l, IsUtf8-from_ascii (text_at bytes p) (IsAscii-take (drop p.start bytes) p.length (IsAscii-drop bytes p.start a)))) ps w

-- ---- the loops

-- one more is ASCII
pub ascii_step : (bytes : List ℕ) (i : ℕ) (ascii : Bool) → i < length bytes → (ascii ≡ true → IsAscii (take i bytes)) → (ascii && ltb (get_or bytes i 0) 128) ≡ true → IsAscii (take (i + 1) bytes)
ascii_step bytes i ascii h f e =
    let t = and_both ascii (ltb (get_or bytes i 0) 128) e in
    IsAscii-more bytes i h (f t.0) (ltb-true (get_or bytes i 0) 128 t.1)

-- one more is a text
pub texts_step : (all : List ℕ) (ps : List TextPlace) (i : ℕ) (d : TextPlace) (fits b : Bool) → i < length ps → (fits ≡ true → AreTexts all (take i ps)) → (b ≡ true → IsText all (get_or ps i d)) → (fits && b) ≡ true → AreTexts all (take (i + 1) ps)
texts_step all ps i d fits b h f g e =
    let t = and_both fits b e in
    All-more (IsText all) ps i d h (f t.0) (g t.1)

-- the texts before an index are found, and end where the others begin
pub record Found (bytes : List ℕ) (ps : List TextPlace) (i : ℕ) (rest : List ℕ) : Type 0 where
  pub read : repeatedly text_bytes i bytes ≡ got (map (text_at bytes) (take i ps)) rest
  pub within : All (λ p. p.start + p.length + length rest ≤ length bytes) (take i ps)

pub none_found : (bytes : List ℕ) (ps : List TextPlace) → Found bytes ps 0 bytes
none_found bytes ps = record { read = refl; within = All-nil (λ p. p.start + p.length + length bytes ≤ length bytes) }

pub one_found : (bytes : List ℕ) (ps : List TextPlace) (i : ℕ) (rest behind : List ℕ) (p : TextPlace) → i < length ps → Found bytes ps i rest → text_bytes rest ≡ got (text_at bytes p) behind → p.start + p.length + length behind ≡ length bytes → length behind ≤ length rest
    → Found bytes (set ps i p) (i + 1) behind
one_found bytes ps i rest behind p h f e n s =
    let m : take (i + 1) (set ps i p) ≡ take i ps ++ p ∷ [] = take_more_set ps i p h in
    let ends : TextPlace → Type 0 = λ q. q.start + q.length + length behind ≤ length bytes in
    record {
      read = read_more text_bytes i bytes rest behind (map (text_at bytes) (take i ps)) (text_at bytes p) f.read e
          ∙ ap (λ ts. got ts behind) (sym (ap (map (text_at bytes)) m ∙ map_push (text_at bytes) (take i ps) p));
      within = subst (All ends) (sym m) (All-push ends (take i ps) p (All-weaker (λ q. q.start + q.length + length rest ≤ length bytes) ends (λ q w. omega (arith, w, s)) (take i ps) f.within) (omega (arith, n)));
    }

-- ---- all texts

-- texts whose bytes are found and are UTF-8 are read
found_read : (n : ℕ) (bytes bs rest : List ℕ) (ps : List TextPlace) → repeatedly text_bytes n bs ≡ got (map (text_at bytes) ps) rest → AllByRecursion (λ p. IsUtf8 (text_at bytes p)) ps → repeatedly plain_text n bs ≡ got (text_values bytes ps) rest
found_read zero bytes bs rest ps e u = by_none ps e
  where
    by_none : (ps : List TextPlace) → repeatedly text_bytes zero bs ≡ got (map (text_at bytes) ps) rest → repeatedly plain_text zero bs ≡ got (text_values bytes ps) rest
    by_none [] e = let none : List (List ℕ) = [] in ap (got []) (same_got {E = PlainFault} none none bs rest e).1
    by_none (p ∷ ps) e = let none : List (List ℕ) = [] in absurd (no_text p ps (same_got {E = PlainFault} none (map (text_at bytes) (p ∷ ps)) bs rest e).0)
      where
        no_text : (p : TextPlace) (ps : List TextPlace) → [] ≡ text_at bytes p ∷ map (text_at bytes) ps → ⊥
        no_text p ps e = cc
found_read (suc n) bytes bs rest ps e u = by_first (λ cs qs f v. found_read n bytes cs rest qs f v) (text_bytes bs) refl
  where
    Others : Type 0
    Others = (cs : List ℕ) (qs : List TextPlace) → repeatedly text_bytes n cs ≡ got (map (text_at bytes) qs) rest → AllByRecursion (λ p. IsUtf8 (text_at bytes p)) qs → repeatedly plain_text n cs ≡ got (text_values bytes qs) rest

    by_places : Others → (t cs us-rest : List ℕ) (us : List (List ℕ)) (ps : List TextPlace) → text_bytes bs ≡ got t cs → repeatedly text_bytes n cs ≡ got us us-rest → t ∷ us ≡ map (text_at bytes) ps → us-rest ≡ rest → AllByRecursion (λ p. IsUtf8 (text_at bytes p)) ps
        → repeatedly plain_text (suc n) bs ≡ got (text_values bytes ps) rest
    by_places others t cs q us [] f g h s u = absurd (cc)
    by_places others t cs q us (p ∷ ps) f g h s u =
        let head : t ≡ text_at bytes p = same_head t (text_at bytes p) us (map (text_at bytes) ps) h in
        let tail : us ≡ map (text_at bytes) ps = same_tail t (text_at bytes p) us (map (text_at bytes) ps) h in
        let v : Value = text_value (text_at bytes p) in
        let one : plain_text bs ≡ got v cs = plain_by_bytes bs ∙ (ap (λ r. goes_on r checked_text) (f ∙ ap (λ x. got x cs) head) ∙ rw (is_utf8-from_IsUtf8 (text_at bytes p) u.0) refl) in
        one_more plain_text n bs cs v one ∙ ap (in_front (v ∷ [])) (others cs ps (g ∙ ap₂ got tail s) u.1)
      where
        same_head : (a b : List ℕ) (xs ys : List (List ℕ)) → a ∷ xs ≡ b ∷ ys → a ≡ b
        same_head a b xs ys e = cc

        same_tail : (a b : List ℕ) (xs ys : List (List ℕ)) → a ∷ xs ≡ b ∷ ys → xs ≡ ys
        same_tail a b xs ys e = cc

    by_others : Others → (t cs : List ℕ) → text_bytes bs ≡ got t cs → (r : Reading PlainFault (List (List ℕ))) → repeatedly text_bytes n cs ≡ r → in_front (t ∷ []) r ≡ got (map (text_at bytes) ps) rest → repeatedly plain_text (suc n) bs ≡ got (text_values bytes ps) rest
    by_others others t cs f (refused x q) g h = absurd (not_refused x q (map (text_at bytes) ps) rest h)
    by_others others t cs f (got us q) g h = let s = same_got {E = PlainFault} (t ∷ us) (map (text_at bytes) ps) q rest h in by_places others t cs q us ps f g s.0 s.1 u

    by_first : Others → (r : Reading PlainFault (List ℕ)) → text_bytes bs ≡ r → repeatedly plain_text (suc n) bs ≡ got (text_values bytes ps) rest
    by_first others (refused x q) f = absurd (not_refused x q (map (text_at bytes) ps) rest (sym (first_refused text_bytes n bs q x f) ∙ e))
    by_first others (got t cs) f = by_others others t cs f (repeatedly text_bytes n cs) refl (sym (one_more text_bytes n bs cs t f) ∙ e)

-- a text in the first bytes
same_text : (bytes : List ℕ) (e : ℕ) (p : TextPlace) → p.start + p.length ≤ e → text_at (take e bytes) p ≡ text_at bytes p
same_text bytes e p h =
    let k : e ≡ p.start + (e - p.start) = omega (arith, h) in
    ap (λ n. take p.length (drop p.start (take n bytes))) k ∙ (ap (take p.length) (drop-take p.start (e - p.start) bytes) ∙ take-take p.length (e - p.start) (drop p.start bytes) (omega (arith, h)))

same_texts : (bytes : List ℕ) (e : ℕ) (ps : List TextPlace) → AllByRecursion (λ p. p.start + p.length ≤ e) ps → text_values (take e bytes) ps ≡ text_values bytes ps
same_texts bytes e [] h = refl
same_texts bytes e (p ∷ ps) h = ap₂ (λ t vs. text_value t ∷ vs) (same_text bytes e p h.0) (same_texts bytes e ps h.1)

-- texts of the first bytes are read of all of them
pub batch_read : (n e : ℕ) (bytes piece : List ℕ) (ps : List TextPlace) → repeatedly text_bytes n bytes ≡ got (map (text_at bytes) ps) (drop e bytes) → e ≤ length bytes → AreWithin e ps → piece ≡ take e bytes → AreTexts piece ps
    → repeatedly plain_text n bytes ≡ got (text_values piece ps) (drop (length piece) bytes)
batch_read n e bytes piece ps f l w p t =
    let size : length piece ≡ e = ap length p ∙ length-take-le e bytes l in
    let inside : AllByRecursion (λ q. q.start + q.length ≤ e) ps = recursion_from_All (λ q. q.start + q.length ≤ e) ps w in
    let utf8 : AllByRecursion (λ q. IsUtf8 (text_at bytes q)) ps = recursion_from_All (λ q. IsUtf8 (text_at bytes q)) ps
    (All-weaker (λ q. IsText (take e bytes) q) (λ q. IsUtf8 (text_at bytes q)) (λ q h. subst IsUtf8 (same_text bytes e q (omega (arith, h.0, length-take-le e bytes l))) h.1) ps (subst (λ (xs : List ℕ). AreTexts xs ps) p t)) in
    found_read n bytes bytes (drop e bytes) ps f utf8 ∙ ap₂ (λ vs k. got vs (drop k bytes)) (sym (ap (λ xs. text_values xs ps) p ∙ same_texts bytes e ps inside)) (sym size)

-- a reader that gave them
pub batch_given : (n : ℕ) (bytes behind piece : List ℕ) (given : List Value) (places : List TextPlace) (r new : PlainReader) → HasGiven text_kind bytes given r → behind ≡ drop r.place bytes
    → repeatedly plain_text n behind ≡ got (text_values piece places) (drop (length piece) behind) → length places ≡ n → drop new.place bytes ≡ drop (length piece * 1) behind → refused_of new ≡ refused_of r
    → (length places ≡ n) × HasGiven text_kind bytes (given ++ text_values piece places) new
batch_given n bytes behind piece given places r new h p f l e u =
    let z : length piece * 1 ≡ length piece = omega arith in
    let k : length (text_values piece places) ≡ n = length-map places (λ q. text_value (text_at piece q)) ∙ l in (
      l,
      record {
        rest = drop (length piece) behind;
        read = given_more plain_text n r.place bytes h.rest behind (drop (length piece) behind) given (text_values piece places) h.read h.stands p f k;
        stands = sym (e ∙ ap (λ k. drop k behind) z);
        unrefused = u ∙ h.unrefused;
      },
    )
