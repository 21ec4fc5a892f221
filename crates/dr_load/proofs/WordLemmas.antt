-- Texts without a line feed, and words that aren't refused.
use Rattle.std.specs.Prelude.{◌≡◌, ℕ, zero, suc, ◌<◌, ◌≤◌, ◌==◌, nat_le, List, [], ◌∷◌, length, slice_index, Bool, true, false, not, ◌&&◌, Option, Some, None, is_some, String, string_bytes, map}
use Rattle.std.proofs.Common.{arith, rules, refl, sym, ap, ◌∙◌, true≢false, Global}
use Rattle.std.proofs.lemmas.List.{length-map}
use Rattle.std.proofs.lemmas.Bool.Decides.{nat_tests}
use Rattle.std.proofs.lemmas.Bool.{and_from}
use Rattle.memchr.specs.Find.{Nowhere, Passes, is_byte, IsFirstByte}
use Rattle.dr_formats.specs.Loading.{words_refusal, or_copies}
use Rattle.dr_load.specs.Words.{no_lf}

-- ---- one line

is_not_lf : (b : ℕ) → ((b == 10) ≡ true → ⊥) → not (b == 10) ≡ true
is_not_lf b h = by (b == 10) h
  where
    by : (t : Bool) → (t ≡ true → ⊥) → not t ≡ true
    by true k = absurd (k refl)
    by false k = refl

pub none_there : (xs : List ℕ) → Nowhere (Passes (is_byte 10) xs) 0 (length xs) → no_lf xs ≡ true
none_there [] h = refl
none_there (b ∷ bs) h =
    and_from (not (b == 10)) (no_lf bs) (is_not_lf b (h 0 (omega arith) (omega arith)))
    (none_there bs (λ k low high. h (suc k) (omega arith) (omega arith)))

false_behind : (t : Bool) → (t && false) ≡ false
false_behind true = refl
false_behind false = refl

pub some_there : (xs : List ℕ) (k : ℕ) → k < length xs → (slice_index xs k == 10) ≡ true → no_lf xs ≡ false
some_there [] k l h = absurd (omega arith)
some_there (b ∷ bs) zero l h = ap (λ t. not t && no_lf bs) h
some_there (b ∷ bs) (suc k) l h = ap (λ t. not (b == 10) && t) (some_there bs k (omega arith) h) ∙ false_behind (not (b == 10))

-- a text in which no line feed is found is one line
pub one_line : (xs : List ℕ) (r : Option ℕ) (t : Bool) → IsFirstByte (is_byte 10) xs r → is_some r ≡ not t → t ≡ no_lf xs
one_line xs None true h e = sym (none_there xs h)
one_line xs None false h e = absurd (true≢false (sym e))
one_line xs (Some k) true h e = absurd (true≢false e)
one_line xs (Some k) false h e = sym (some_there xs k h.0.high h.1)

-- ---- words that aren't refused

fits_of : (t : Bool) (r : Option ℕ) → or_copies t r ≡ None → t ≡ true
fits_of true r h = refl
fits_of false None h = search (rules, h)
fits_of false (Some n) h = search (rules, h)

-- where the words aren't refused, there are at most as many copies as directories
pub few_copies : (ds : List (List ℕ)) (copies : ℕ) → words_refusal ds copies ≡ None → copies ≤ length ds
few_copies ds copies h =
    let t : nat_le copies (length ds) ≡ true = fits_of _ _ h in
    grind (arith, nat_tests)

-- where the words aren't refused and there is a copy, there is a directory
pub has_directory : (ds : List (List ℕ)) (copies : ℕ) → words_refusal ds copies ≡ None → 0 < copies → 0 < length ds
has_directory ds copies h k = omega (arith, few_copies ds copies h)

-- the same of directories as the code has them
pub few_copies-strings : (ds : List (String Global)) (copies : ℕ) → words_refusal (map string_bytes ds) copies ≡ None → copies ≤ length ds
few_copies-strings ds copies h = omega (arith, few_copies (map string_bytes ds) copies h, length-map ds string_bytes)

pub has_directory-strings : (ds : List (String Global)) (copies : ℕ) → words_refusal (map string_bytes ds) copies ≡ None → 0 < copies → 0 < length ds
has_directory-strings ds copies h k = omega (arith, few_copies-strings ds copies h)
