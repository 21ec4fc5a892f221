-- The literal front of a pattern ends at its first byte that is `%` or `_`.
use Rattle.std.proofs.Common.{◌≡◌, ℕ, suc, ◌+◌, ◌<◌, List, [], ◌∷◌, ◌++◌, length, take, drop, get_or, slice_range, Bool, true, false, ◌||◌, ◌==◌, Some, None, chars, IsUtf8, IsCharBoundary, refl, sym, ap, ◌∙◌, arith, true≢false, append-nil, length-append, take-append-drop, drop-cons, get_or-take, get_or-append-add, length-take-le}
use Rattle.std.specs.Prelude.{if◌then◌else◌}
use Rattle.std.proofs.Math.Utf8.{encodes, encode}
use Rattle.std.proofs.lemmas.Bool.{eqb-true}
use Rattle.std.proofs.lemmas.Str.{encode_ascii, encodes-chars, length-encode, len_utf8_bounds, chars-append, chars_past_char, IsUtf8-take, IsUtf8-drop, IsCharBoundary-before_ascii}
use Rattle.memchr.specs.Find.{IsFirstByte, is_byte2}
use Rattle.dr_scalar.specs.Reach.{literal_front}

abbrev sign : ℕ → Bool
sign c = c == 37 || c == 95

sign_ascii : (c : ℕ) → sign c ≡ true → c < 128
sign_ascii c h = by (c == 37) (c == 95) (eqb-true c 37) (eqb-true c 95) h
  where
    by : (a b : Bool) → (a ≡ true → c ≡ 37) → (b ≡ true → c ≡ 95) → (a || b) ≡ true → c < 128
    by true b f g k = let e : c ≡ 37 = f refl in omega arith
    by false b f g k = let e : c ≡ 95 = g k in omega arith

-- bytes none of which is a sign are characters none of which is
front_all : (fs rs : List ℕ) → ((j : ℕ) → j < length (encodes fs) → sign (get_or (encodes fs) j 0) ≡ false) → literal_front rs ≡ [] → literal_front (fs ++ rs) ≡ fs
front_all [] rs h e = e
front_all (c ∷ fs) rs h e = by (sign c) refl (front_all fs rs behind e)
  where
    filled : 0 < length (encode c)
    filled = omega (arith, length-encode c, len_utf8_bounds c)

    behind : (j : ℕ) → j < length (encodes fs) → sign (get_or (encodes fs) j 0) ≡ false
    behind j l = ap sign (sym (get_or-append-add (encode c) (encodes fs) j 0)) ∙ h (length (encode c) + j) (omega (arith, length-append (encode c) (encodes fs)))

    by : (b : Bool) → sign c ≡ b → literal_front (fs ++ rs) ≡ fs → (if b then [] else c ∷ literal_front (fs ++ rs)) ≡ c ∷ fs
    by false k q = ap (λ xs. c ∷ xs) q
    by true k q =
        let one : encodes (c ∷ fs) ≡ c ∷ encodes fs = ap (λ xs. xs ++ encodes fs) (encode_ascii c (sign_ascii c k)) in
        let none : sign c ≡ false = ap (λ xs. sign (get_or xs 0 0)) (sym one) ∙ h 0 (omega (arith, length-append (encode c) (encodes fs), filled)) in
        absurd (true≢false (sym k ∙ none))

pub whole_front : (pattern : List ℕ) → IsUtf8 pattern → IsFirstByte (is_byte2 37 95) pattern None → chars pattern ≡ literal_front (chars pattern)
whole_front pattern u h = sym (ap literal_front (sym (append-nil (chars pattern))) ∙ front_all (chars pattern) [] here refl)
  where
    same : encodes (chars pattern) ≡ pattern
    same = encodes-chars pattern u

    here : (j : ℕ) → j < length (encodes (chars pattern)) → sign (get_or (encodes (chars pattern)) j 0) ≡ false
    here j l = ap (λ xs. sign (get_or xs j 0)) same ∙ by (sign (get_or pattern j 0)) refl
      where
        by : (b : Bool) → sign (get_or pattern j 0) ≡ b → sign (get_or pattern j 0) ≡ false
        by false k = k
        by true k = absurd (h j (omega arith) (omega (arith, ap length same)) k)

pub sign_at_boundary : (pattern : List ℕ) (k : ℕ) → IsFirstByte (is_byte2 37 95) pattern (Some k) → IsCharBoundary pattern k
sign_at_boundary pattern k h = IsCharBoundary-before_ascii pattern k h.0.high (sign_ascii (get_or pattern k 0) h.1)

from_start : (xs : List ℕ) (k : ℕ) → slice_range xs 0 k ≡ take k xs
from_start xs k = grind arith

pub front_to_sign : (pattern : List ℕ) (k : ℕ) → IsUtf8 pattern → IsFirstByte (is_byte2 37 95) pattern (Some k) → chars (slice_range pattern 0 k) ≡ literal_front (chars pattern)
front_to_sign pattern k u h = ap chars (from_start pattern k) ∙ sym (ap literal_front split ∙ front_all (chars (take k pattern)) (chars (drop k pattern)) here (ap literal_front sign_first ∙ ap (λ b. if b then [] else get_or pattern k 0 ∷ literal_front (chars (drop (suc k) pattern))) h.1))
  where
    boundary : IsCharBoundary pattern k
    boundary = sign_at_boundary pattern k h

    front : IsUtf8 (take k pattern)
    front = IsUtf8-take pattern k u boundary

    split : chars pattern ≡ chars (take k pattern) ++ chars (drop k pattern)
    split = ap chars (sym (take-append-drop k pattern)) ∙ chars-append (take k pattern) (drop k pattern) front

    same : encodes (chars (take k pattern)) ≡ take k pattern
    same = encodes-chars (take k pattern) front

    sign_first : chars (drop k pattern) ≡ get_or pattern k 0 ∷ chars (drop (suc k) pattern)
    sign_first =
        chars_past_char (drop k pattern) (drop (suc k) pattern) (get_or pattern k 0) (IsUtf8-drop pattern k u boundary)
        (drop-cons pattern k 0 h.0.high ∙ ap (λ xs. xs ++ drop (suc k) pattern) (sym (encode_ascii (get_or pattern k 0) (sign_ascii (get_or pattern k 0) h.1))))

    here : (j : ℕ) → j < length (encodes (chars (take k pattern))) → sign (get_or (encodes (chars (take k pattern))) j 0) ≡ false
    here j l = ap (λ xs. sign (get_or xs j 0)) same ∙ (ap sign (get_or-take k pattern j 0 below) ∙ by (sign (get_or pattern j 0)) refl)
      where
        below : j < k
        below = omega (arith, ap length same, length-take-le k pattern boundary.0)

        by : (b : Bool) → sign (get_or pattern j 0) ≡ b → sign (get_or pattern j 0) ≡ false
        by false m = m
        by true m = absurd (h.0.before j (omega arith) below m)
