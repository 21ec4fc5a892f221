-- Lines cut at LF, words before them, and numbers in decimal.
use Rattle.std.proofs.Common.{◌≡◌, ◌≢◌, ℕ, suc, ◌+◌, ◌-◌, ◌*◌, ◌^◌, ◌≤◌, ◌<◌, List, [], ◌∷◌, ◌++◌, length, drop, Bool, true, false, refl, sym, ap, ap₂, ◌∙◌, arith, rules, Option, Some, None, Result, Ok, Err, true≢false, get_or}
use Rattle.std.specs.Prelude.{◌==◌, nat_le, option_map, option_copied, option_and_then, MatchOption}
use Rattle.std.specs.List.{list_all}
use Rattle.std.specs.Str.Parse.{ParsesUnsigned}
use Rattle.std.specs.Str.Pattern.{FindsTextPrefix, StripsPrefix, FindsCharPrefix}
use Rattle.std.proofs.lemmas.Bool.{and_parts, leb-true, leb-false, eq-eqb, eqb-true, ne_eqb, lt-leb, le-leb}
use Rattle.std.proofs.lemmas.Str.Parse.{IsNumeralModel, numerals_by_fold, parse_plain}
use Rattle.std.proofs.lemmas.Str.Pattern.{IsSplitOnceResult, split_parts, starts_char}
use denote.Ref.{Bor}
use Rattle.dr_formats.specs.TableFile.{first_line, behind_word, digits_value, number_text, at_most, number_behind}
use Rattle.dr_table.specs.Lines.{line_view}
use Rattle.dr_meaning.specs.Tokens.{is_digit}

-- ---- lines

no_line : (bs : List ℕ) → ((i : ℕ) → i < length bs → get_or bs i 0 ≢ 10) → first_line bs ≡ None
no_line [] h = refl
no_line (b ∷ bs) h =
    let n : first_line bs ≡ None = no_line bs (λ i l. h (suc i) (omega arith)) in
    rw (ne_eqb b 10 (h 0 (omega arith)), n) refl

one_line : (xs ys : List ℕ) → ((i : ℕ) → i < length xs → get_or xs i 0 ≢ 10) → first_line (xs ++ 10 ∷ ys) ≡ Some (record { text = xs; behind = ys })
one_line [] ys h = refl
one_line (x ∷ xs) ys h =
    let n : first_line (xs ++ 10 ∷ ys) ≡ Some (record { text = xs; behind = ys }) = one_line xs ys (λ i l. h (suc i) (omega arith)) in
    rw (ne_eqb x 10 (h 0 (omega arith)), n) refl

-- a text split once at LF is its first line and what is behind
pub line_is_cut : (bs : List ℕ) (r : Option (Bor (List ℕ) × Bor (List ℕ))) → IsSplitOnceResult 10 bs r → option_map line_view r ≡ first_line bs
line_is_cut bs r h = by r (split_parts 10 bs r h (omega arith))
  where
    by : (o : Option (Bor (List ℕ) × Bor (List ℕ))) → MatchOption o ((i : ℕ) → i < length bs → get_or bs i 0 ≢ 10) (λ x. (bs ≡ x.0.now ++ (10 ∷ x.1.now)) × ((i : ℕ) → i < length x.0.now → get_or x.0.now i 0 ≢ 10)) → option_map line_view o ≡ first_line bs
    by None p = sym (no_line bs p)
    by (Some x) p = sym (ap first_line p.0 ∙ one_line x.0.now x.1.now p.1)

-- ---- words

has_word : (w t : List ℕ) → behind_word w (w ++ t) ≡ Some t
has_word [] t = refl
has_word (b ∷ w) t = rw (eq-eqb b b refl) (has_word w t)

lacks_word : (w t : List ℕ) → ((rest : List ℕ) → t ≢ w ++ rest) → behind_word w t ≡ None
lacks_word [] t h = absurd (h t refl)
lacks_word (b ∷ w) [] h = refl
lacks_word (b ∷ w) (c ∷ t) h = by (b == c) refl (lacks_word w t)
  where
    by : (e : Bool) → (b == c) ≡ e → (((rest : List ℕ) → t ≢ w ++ rest) → behind_word w t ≡ None) → behind_word (b ∷ w) (c ∷ t) ≡ None
    by true e k = rw e (k (λ rest g. h rest (ap₂ (λ x xs. x ∷ xs) (sym (eqb-true b c e)) g)))
    by false e k = rw e refl

-- what is behind a prefix that is stripped
pub prefix_is_stripped : (w t : List ℕ) (r : Option (Bor (List ℕ))) → MatchOption r (FindsTextPrefix w t None) (λ x. StripsPrefix (FindsTextPrefix w) t x.now) → option_copied r ≡ behind_word w t
prefix_is_stripped w t None h = sym (lacks_word w t h)
prefix_is_stripped w t (Some x) h = ap (λ y. Some y) h.2 ∙ sym (ap (behind_word w) h.1.1 ∙ has_word w (drop h.0 t))

-- ---- numbers

model : IsNumeralModel (λ ds. list_all is_digit ds ≡ true) (digits_value 0)
model = numerals_by_fold _ (search rules) digits_value (search rules)

-- digits behind a number make it no less
grows : (m : ℕ) (ds : List ℕ) → m ≤ digits_value m ds
grows m [] = omega arith
grows m (d ∷ ds) = omega (arith, grows (10 * m + (d - 48)) ds)

number_of_digits : (ds : List ℕ) → list_all is_digit ds ≡ true → 0 < length ds → get_or ds 0 0 ≢ 48 → (number_text ds ≡ Some (digits_value 0 ds)) × (0 < digits_value 0 ds)
number_of_digits [] h l n = absurd (omega (arith, l))
number_of_digits (d ∷ ds) h l n =
    let p : (is_digit d ≡ true) × (list_all is_digit ds ≡ true) = and_parts _ _ h in
    let q : (nat_le 48 d ≡ true) × (nat_le d 57 ≡ true) = and_parts _ _ p.0 in
    (rw (h, ne_eqb d 48 n) refl, omega (arith, leb-true 48 d q.0, n, grows (10 * 0 + (d - 48)) ds))

no_number : (ds : List ℕ) → list_all is_digit ds ≡ false → number_text ds ≡ None
no_number [] h = refl
no_number (d ∷ ds) h = rw h refl

-- the number of a parsed text, at most the greatest
abbrev pub number_of : {E : Type 0} → ℕ → Result ℕ E → Option ℕ
number_of greatest (Ok n) = at_most greatest n
number_of greatest (Err e) = None

digits_or_not : (ds : List ℕ) (n : ℕ) → (list_all is_digit ds ≡ true → n < digits_value 0 ds) → 0 < length ds → get_or ds 0 0 ≢ 48 → option_and_then (at_most n) (number_text ds) ≡ None
digits_or_not ds n h l z = by (list_all is_digit ds) refl
  where
    by : (b : Bool) → list_all is_digit ds ≡ b → option_and_then (at_most n) (number_text ds) ≡ None
    by true e = rw ((number_of_digits ds e l z).0, lt-leb (digits_value 0 ds) n (h e)) refl
    by false e = rw (no_number ds e) refl

-- a text that begins neither with 0 nor with + is a number exactly where it is parsed as one
parsed_number : {E : Type 0} (ds : List ℕ) (greatest : ℕ) (r : Result ℕ E) → ParsesUnsigned 32 10 ds r → get_or ds 0 0 ≢ 43 → get_or ds 0 0 ≢ 48 → greatest < 2 ^ 32
    → option_and_then (at_most greatest) (number_text ds) ≡ number_of greatest r
parsed_number {E = E} ds greatest (Ok n) h plus zero small =
    let p = parse_plain model {E = E} 32 ds (Ok n) h plus in
    rw ((number_of_digits ds p.0.0 p.0.1 zero).0, p.1) refl
parsed_number [] greatest (Err e) h plus zero small = refl
parsed_number (d ∷ ds) greatest (Err e) h plus zero small = digits_or_not (d ∷ ds) greatest (λ q. above (nat_le (digits_value 0 (d ∷ ds)) greatest) refl q) (omega arith) zero
  where
    above : (b : Bool) → nat_le (digits_value 0 (d ∷ ds)) greatest ≡ b → list_all is_digit (d ∷ ds) ≡ true → greatest < digits_value 0 (d ∷ ds)
    above true g q = absurd (parse_plain model 32 (d ∷ ds) (Err e) h plus (q, omega arith, omega (arith, leb-true (digits_value 0 (d ∷ ds)) greatest g, small)))
    above false g q = leb-false (digits_value 0 (d ∷ ds)) greatest g

-- the number behind a word, where the digits begin neither with 0 nor with +
pub number_is_parsed : {E : Type 0} (word line ds : List ℕ) (greatest : ℕ) (r : Result ℕ E) → Some ds ≡ behind_word word line → ParsesUnsigned 32 10 ds r → get_or ds 0 0 ≢ 43 → get_or ds 0 0 ≢ 48 → greatest < 2 ^ 32
    → number_of greatest r ≡ number_behind word greatest line
number_is_parsed word line ds greatest r e h plus zero small = sym (rw (← e) (parsed_number ds greatest r h plus zero small))

-- a parsed number that doesn't begin with 0 isn't 0
pub parsed_is_some : {E : Type 0} (ds : List ℕ) (n : ℕ) (r : Result ℕ E) → ParsesUnsigned 32 10 ds r → r ≡ Ok n → get_or ds 0 0 ≢ 43 → get_or ds 0 0 ≢ 48 → 0 < n
parsed_is_some {E = E} ds n (Ok m) h e plus zero =
    let p = parse_plain model {E = E} 32 ds (Ok m) h plus in
    let k : m ≡ n = cc in
    omega (arith, k, p.1, (number_of_digits ds p.0.0 p.0.1 zero).1)
parsed_is_some ds n (Err x) h e plus zero = absurd (cc)

-- a text that doesn't begin with a character
pub begins_otherwise : (c : ℕ) (bs : List ℕ) → FindsCharPrefix c bs None → c < 128 → 0 < c → get_or bs 0 0 ≢ c
begins_otherwise c bs h l p e = absurd (true≢false (sym ((starts_char c bs false h l p).1 e)))

pub at_most_within : (greatest n : ℕ) → n ≤ greatest → at_most greatest n ≡ Some n
at_most_within greatest n h = rw (le-leb n greatest h) refl

pub at_most_above : (greatest n : ℕ) → greatest < n → at_most greatest n ≡ None
at_most_above greatest n h = rw (lt-leb n greatest h) refl
