-- A query text is the blanks and tokens of one list of tokens alone.
use Rattle.std.proofs.Common.{◌≡◌, ◌⊎◌, inl, inr, ℕ, suc, ◌+◌, ◌*◌, ◌-◌, ◌≤◌, List, [], ◌∷◌, ◌++◌, length, Bool, true, false, not, ◌||◌, refl, sym, ap, ◌∙◌, subst, true≢false, arith, append_assoc, append-nil, length-append}
use Rattle.std.specs.Prelude.{◌==◌, if◌then◌else◌, nat_le, codes}
use Rattle.std.specs.List.{list_all, list_any}
use Rattle.std.proofs.lemmas.Bool.{and_parts, and_from, or_parts, eqb-true, leb-true, le-leb, lt-leb, not-true, ne_eqb}
use Rattle.dr_meaning.specs.Schema.{begins_name, continues_name}
use Rattle.dr_meaning.specs.SchemaText.{is_blank}
use Rattle.dr_meaning.specs.Tokens.{Sign, comma, open_parenthesis, close_parenthesis, dot, star, plus_sign, minus_sign, equals, differs, less_than, less_or_equal, greater_than, greater_or_equal, semicolon, QueryToken, reserved, identifier, number, text, sign, bad, PlacedToken, name_token, greatest_number, number_token, quoted_token, is_digit, none, in_name, in_number, in_quotes, in_text, placed, query_tokens_from}
use Rattle.dr_meaning.specs.TokenLaws.{begins_so, IsWholeWord, digits_value, AreDigitsOf, doubled, has_no_quote, IsStray, IsSign, IsQueryToken, AreQueryTokens, OneListOfQueryTokens}
use Rattle.dr_meaning.proofs.OneTokenLemmas.{blank_begins}

-- the tokens of these bytes and those behind them
abbrev Ends : ℕ → ℕ → List ℕ → List ℕ → QueryToken → Type 0
Ends i j bs behind t = query_tokens_from i none (bs ++ behind) ≡ placed i t ∷ query_tokens_from j none behind

-- ---- blanks, letters and digits are apart

name_is_no_blank : (b : ℕ) → begins_name b ≡ true → is_blank b ≡ false
name_is_no_blank b h = by_test (is_blank b) refl
  where
    by_test : (x : Bool) → is_blank b ≡ x → is_blank b ≡ false
    by_test true e = absurd (true≢false (sym h ∙ blank_begins b e))
    by_test false e = e

digit_range : (b : ℕ) → is_digit b ≡ true → (48 ≤ b) × (b ≤ 57)
digit_range b h = let p : (nat_le 48 b ≡ true) × (nat_le b 57 ≡ true) = and_parts _ _ h in (leb-true 48 b p.0, leb-true b 57 p.1)

digit_is_no_other : (b : ℕ) → is_digit b ≡ true → (is_blank b ≡ false) × (begins_name b ≡ false)
digit_is_no_other b h =
    let r : (48 ≤ b) × (b ≤ 57) = digit_range b h in
    (rw (ne_eqb b 32 (omega (arith, r)), ne_eqb b 9 (omega (arith, r)), ne_eqb b 13 (omega (arith, r)), ne_eqb b 10 (omega (arith, r))) refl, rw (lt-leb 65 b (omega (arith, r)), lt-leb 97 b (omega (arith, r)), ne_eqb b 95 (omega (arith, r))) refl)

-- ---- words

word_on : (w behind u : List ℕ) (i j s : ℕ) → j ≡ i + length w → list_all continues_name w ≡ true → begins_so continues_name behind ≡ false → query_tokens_from i (in_name s u) (w ++ behind) ≡ placed s (name_token (u ++ w)) ∷ query_tokens_from j none behind
word_on [] [] u i j s e h g = rw append-nil refl
word_on [] (b ∷ behind) u i j s e h g = let k : i ≡ j = omega (arith, e) in rw (append-nil u, g, k) refl
word_on (b ∷ w) behind u i j s e h g =
    let q = and_parts (continues_name b) (list_all continues_name w) h in
    rw q.0 (word_on w behind (u ++ b ∷ []) (suc i) j s (omega (arith, e)) q.1 g ∙ ap (λ x. placed s (name_token x) ∷ query_tokens_from j none behind) (append_assoc u (b ∷ []) w))

word_ends : (bs behind : List ℕ) (i j : ℕ) → j ≡ i + length bs → IsWholeWord bs behind → Ends i j bs behind (name_token bs)
word_ends [] behind i j e h = absurd (true≢false (sym h.0))
word_ends (c ∷ w) behind i j e h =
    let p = and_parts (begins_name c) (list_all continues_name w) h.0 in
    rw (name_is_no_blank c p.0, p.0) (word_on w behind (c ∷ []) (suc i) j i (omega (arith, e)) p.1 h.1)

-- ---- numbers

digits_on : (ds behind : List ℕ) (n i j s : ℕ) → j ≡ i + length ds → list_all is_digit ds ≡ true → begins_so is_digit behind ≡ false → query_tokens_from i (in_number s n) (ds ++ behind) ≡ placed s (number_token (digits_value n ds)) ∷ query_tokens_from j none behind
digits_on [] [] n i j s e h g = refl
digits_on [] (b ∷ behind) n i j s e h g = let k : i ≡ j = omega (arith, e) in rw (g, k) refl
digits_on (b ∷ ds) behind n i j s e h g =
    let q = and_parts (is_digit b) (list_all is_digit ds) h in
    rw q.0 (digits_on ds behind (n * 10 + (b - 48)) (suc i) j s (omega (arith, e)) q.1 g)

digits_end : (n : ℕ) (bs behind : List ℕ) (i j : ℕ) → j ≡ i + length bs → AreDigitsOf n bs behind → Ends i j bs behind (number_token n)
digits_end n [] behind i j e h = absurd (omega (arith, h.0))
digits_end n (d ∷ ds) behind i j e h =
    let p = and_parts (is_digit d) (list_all is_digit ds) h.1 in
    let a = digit_is_no_other d p.0 in
    let z : 0 * 10 + (d - 48) ≡ d - 48 = omega arith in
    rw (a.0, a.1, p.0) (digits_on ds behind (d - 48) (suc i) j i (omega (arith, e)) p.1 h.3 ∙ ap (λ x. placed i (number_token x) ∷ query_tokens_from j none behind) (ap (λ x. digits_value x ds) (sym z) ∙ h.2))

-- ---- double quotes

quotes_on : (w behind u : List ℕ) (i j s : ℕ) → j ≡ i + length w + 1 → has_no_quote w ≡ true → query_tokens_from i (in_quotes s u) (w ++ 34 ∷ behind) ≡ placed s (quoted_token (u ++ w)) ∷ query_tokens_from j none behind
quotes_on [] behind u i j s e h = let k : suc i ≡ j = omega (arith, e) in rw (append-nil u, k) refl
quotes_on (b ∷ w) behind u i j s e h =
    let q = and_parts (not (b == 34)) (has_no_quote w) h in
    rw (not-true (b == 34) q.0) (quotes_on w behind (u ++ b ∷ []) (suc i) j s (omega (arith, e)) q.1 ∙ ap (λ x. placed s (quoted_token x) ∷ query_tokens_from j none behind) (append_assoc u (b ∷ []) w))

quotes_open : (w u : List ℕ) (i s : ℕ) → has_no_quote w ≡ true → query_tokens_from i (in_quotes s u) w ≡ placed s bad ∷ []
quotes_open [] u i s h = refl
quotes_open (b ∷ w) u i s h =
    let q = and_parts (not (b == 34)) (has_no_quote w) h in
    rw (not-true (b == 34) q.0) (quotes_open w (u ++ b ∷ []) (suc i) s q.1)

quotes_end : (w behind : List ℕ) (i j : ℕ) → j ≡ i + length (34 ∷ (w ++ 34 ∷ [])) → has_no_quote w ≡ true → Ends i j (34 ∷ (w ++ 34 ∷ [])) behind (quoted_token w)
quotes_end w behind i j e h = ap (query_tokens_from (suc i) (in_quotes i [])) (append_assoc w (34 ∷ []) behind) ∙ quotes_on w behind [] (suc i) j i (omega (arith, e, length-append w (34 ∷ []))) h

-- a name has no quote
name_has_none : (w : List ℕ) → list_all continues_name w ≡ true → has_no_quote w ≡ true
name_has_none [] h = refl
name_has_none (b ∷ w) h =
    let q = and_parts (continues_name b) (list_all continues_name w) h in
    and_from (not (b == 34)) (has_no_quote w) (by_test (b == 34) refl q.0) (name_has_none w q.1)
  where
    by_test : (x : Bool) → (b == 34) ≡ x → continues_name b ≡ true → not x ≡ true
    by_test true e k = absurd (true≢false (sym (subst (λ y. continues_name y ≡ true) (eqb-true b 34 e) k)))
    by_test false e k = refl

-- ---- single quotes

text_on : (t behind u : List ℕ) (i j s : ℕ) → j ≡ i + length (doubled t) + 1 → begins_so (λ b. b == 39) behind ≡ false → query_tokens_from i (in_text s u) (doubled t ++ 39 ∷ behind) ≡ placed s (text (u ++ t)) ∷ query_tokens_from j none behind
text_on [] [] u i j s e h = rw append-nil refl
text_on [] (b ∷ behind) u i j s e h = let k : suc i ≡ j = omega (arith, e) in rw (append-nil u, h, k) refl
text_on (c ∷ t) behind u i j s e h = by_test (c == 39) refl e (λ v k z. text_on t behind v k j s z h)
  where
    by_test : (b : Bool) → (c == 39) ≡ b → j ≡ i + length (if b then 39 ∷ 39 ∷ doubled t else c ∷ doubled t) + 1
        → ((v : List ℕ) (k : ℕ) → j ≡ k + length (doubled t) + 1 → query_tokens_from k (in_text s v) (doubled t ++ 39 ∷ behind) ≡ placed s (text (v ++ t)) ∷ query_tokens_from j none behind)
        → query_tokens_from i (in_text s u) ((if b then 39 ∷ 39 ∷ doubled t else c ∷ doubled t) ++ 39 ∷ behind) ≡ placed s (text (u ++ c ∷ t)) ∷ query_tokens_from j none behind
    by_test true w z f = f (u ++ 39 ∷ []) (suc (suc i)) (omega (arith, z)) ∙ ap (λ x. placed s (text x) ∷ query_tokens_from j none behind) (append_assoc u (39 ∷ []) t ∙ ap (λ x. u ++ x ∷ t) (sym (eqb-true c 39 w)))
    by_test false w z f = rw w (f (u ++ c ∷ []) (suc i) (omega (arith, z)) ∙ ap (λ x. placed s (text x) ∷ query_tokens_from j none behind) (append_assoc u (c ∷ []) t))

text_open : (t u : List ℕ) (i s : ℕ) → query_tokens_from i (in_text s u) (doubled t) ≡ placed s bad ∷ []
text_open [] u i s = refl
text_open (c ∷ t) u i s = by_test (c == 39) refl (λ v k. text_open t v k s)
  where
    by_test : (b : Bool) → (c == 39) ≡ b → ((v : List ℕ) (k : ℕ) → query_tokens_from k (in_text s v) (doubled t) ≡ placed s bad ∷ []) → query_tokens_from i (in_text s u) (if b then 39 ∷ 39 ∷ doubled t else c ∷ doubled t) ≡ placed s bad ∷ []
    by_test true w f = f (u ++ 39 ∷ []) (suc (suc i))
    by_test false w f = rw w (f (u ++ c ∷ []) (suc i))

-- ---- signs and strange bytes

one_more : (i j : ℕ) (bs : List ℕ) (b : ℕ) → j ≡ i + length bs → bs ≡ b ∷ [] → suc i ≡ j
one_more i j bs b e h = omega (arith, e, ap length h)

two_more : (i j : ℕ) (bs : List ℕ) (b c : ℕ) → j ≡ i + length bs → bs ≡ b ∷ c ∷ [] → suc (suc i) ≡ j
two_more i j bs b c e h = omega (arith, e, ap length h)

sign_ends : (s : Sign) (bs behind : List ℕ) (i j : ℕ) → j ≡ i + length bs → IsSign s bs behind → Ends i j bs behind (sign s)
sign_ends comma bs behind i j e h = let k : suc i ≡ j = one_more i j bs 44 e h in rw h (ap (λ x. placed i (sign comma) ∷ query_tokens_from x none behind) k)
sign_ends open_parenthesis bs behind i j e h = let k : suc i ≡ j = one_more i j bs 40 e h in rw h (ap (λ x. placed i (sign open_parenthesis) ∷ query_tokens_from x none behind) k)
sign_ends close_parenthesis bs behind i j e h = let k : suc i ≡ j = one_more i j bs 41 e h in rw h (ap (λ x. placed i (sign close_parenthesis) ∷ query_tokens_from x none behind) k)
sign_ends dot bs behind i j e h = let k : suc i ≡ j = one_more i j bs 46 e h in rw h (ap (λ x. placed i (sign dot) ∷ query_tokens_from x none behind) k)
sign_ends star bs behind i j e h = let k : suc i ≡ j = one_more i j bs 42 e h in rw h (ap (λ x. placed i (sign star) ∷ query_tokens_from x none behind) k)
sign_ends plus_sign bs behind i j e h = let k : suc i ≡ j = one_more i j bs 43 e h in rw h (ap (λ x. placed i (sign plus_sign) ∷ query_tokens_from x none behind) k)
sign_ends minus_sign bs behind i j e h = let k : suc i ≡ j = one_more i j bs 45 e h in rw h (ap (λ x. placed i (sign minus_sign) ∷ query_tokens_from x none behind) k)
sign_ends equals bs behind i j e h = let k : suc i ≡ j = one_more i j bs 61 e h in rw h (ap (λ x. placed i (sign equals) ∷ query_tokens_from x none behind) k)
sign_ends semicolon bs behind i j e h = let k : suc i ≡ j = one_more i j bs 59 e h in rw h (ap (λ x. placed i (sign semicolon) ∷ query_tokens_from x none behind) k)
sign_ends differs bs behind i j e h = let k : suc (suc i) ≡ j = two_more i j bs 60 62 e h in rw h (ap (λ x. placed i (sign differs) ∷ query_tokens_from x none behind) k)
sign_ends less_or_equal bs behind i j e h = let k : suc (suc i) ≡ j = two_more i j bs 60 61 e h in rw h (ap (λ x. placed i (sign less_or_equal) ∷ query_tokens_from x none behind) k)
sign_ends greater_or_equal bs behind i j e h = let k : suc (suc i) ≡ j = two_more i j bs 62 61 e h in rw h (ap (λ x. placed i (sign greater_or_equal) ∷ query_tokens_from x none behind) k)
sign_ends less_than bs [] i j e h = rw h.0 refl
sign_ends less_than bs (b ∷ behind) i j e h =
    let k : suc i ≡ j = one_more i j bs 60 e h.0 in
    let p : ((b == 61) ≡ false) × ((b == 62) ≡ false) = or_parts _ _ h.1 in
    rw h.0 (subst (λ x. query_tokens_from i none (60 ∷ b ∷ behind) ≡ placed i (sign less_than) ∷ query_tokens_from x none (b ∷ behind)) k (rw (p.0, p.1) refl))
sign_ends greater_than bs [] i j e h = rw h.0 refl
sign_ends greater_than bs (b ∷ behind) i j e h =
    let k : suc i ≡ j = one_more i j bs 62 e h.0 in
    rw h.0 (subst (λ x. query_tokens_from i none (62 ∷ b ∷ behind) ≡ placed i (sign greater_than) ∷ query_tokens_from x none (b ∷ behind)) k (rw h.1 refl))

-- a byte is none of these
none_of : (b c : ℕ) (cs : List ℕ) → list_any (λ x. b == x) (c ∷ cs) ≡ false → ((b == c) ≡ false) × (list_any (λ x. b == x) cs ≡ false)
none_of b c cs h = or_parts (b == c) (list_any (λ x. b == x) cs) h

stray_ends : (b : ℕ) (behind : List ℕ) (i j : ℕ) → suc i ≡ j → IsStray b → Ends i j (b ∷ []) behind bad
stray_ends b behind i j e h =
    let p1 : ((is_blank b || begins_name b || is_digit b || (b == 34)) ≡ false) × (list_any (λ x. b == x) (codes "'<>,().*+-=;") ≡ false) = or_parts _ _ h in
    let p2 : ((is_blank b || begins_name b || is_digit b) ≡ false) × ((b == 34) ≡ false) = or_parts _ _ p1.0 in
    let p3 : ((is_blank b || begins_name b) ≡ false) × (is_digit b ≡ false) = or_parts _ _ p2.0 in
    let p4 : (is_blank b ≡ false) × (begins_name b ≡ false) = or_parts _ _ p3.0 in
    let q1 = none_of b 39 (codes "<>,().*+-=;") p1.1 in
    let q2 = none_of b 60 (codes ">,().*+-=;") q1.1 in
    let q3 = none_of b 62 (codes ",().*+-=;") q2.1 in
    let q4 = none_of b 44 (codes "().*+-=;") q3.1 in
    let q5 = none_of b 40 (codes ").*+-=;") q4.1 in
    let q6 = none_of b 41 (codes ".*+-=;") q5.1 in
    let q7 = none_of b 46 (codes "*+-=;") q6.1 in
    let q8 = none_of b 42 (codes "+-=;") q7.1 in
    let q9 = none_of b 43 (codes "-=;") q8.1 in
    let q10 = none_of b 45 (codes "=;") q9.1 in
    let q11 = none_of b 61 (codes ";") q10.1 in
    let q12 = none_of b 59 [] q11.1 in
    rw (p4.0, p4.1, p3.1, p2.1, q1.0, q2.0, q3.0, q4.0, q5.0, q6.0, q7.0, q8.0, q9.0, q10.0, q11.0, q12.0) (ap (λ x. placed i bad ∷ query_tokens_from x none behind) e)

-- ---- each token

token_ends : (t : QueryToken) (bs behind : List ℕ) (i j : ℕ) → j ≡ i + length bs → IsQueryToken t bs behind → Ends i j bs behind t
token_ends (reserved w) bs behind i j e h = word_ends bs behind i j e h.0 ∙ ap (λ x. placed i x ∷ query_tokens_from j none behind) h.1
token_ends (identifier n) bs behind i j e (inl h) =
    let w : IsWholeWord bs behind = subst (λ x. IsWholeWord x behind) (sym h.0) h.1 in
    word_ends bs behind i j e w ∙ ap (λ x. placed i x ∷ query_tokens_from j none behind) (ap name_token h.0 ∙ h.2)
token_ends (identifier []) bs behind i j e (inr h) = absurd (true≢false (sym h.1))
token_ends (identifier (c ∷ n)) bs behind i j e (inr h) =
    let p = and_parts (begins_name c) (list_all continues_name n) h.1 in
    let k : continues_name c ≡ true = rw p.0 refl in
    let q : quoted_token (c ∷ n) ≡ identifier (c ∷ n) = rw h.1 refl in
    rw h.0 (quotes_end (c ∷ n) behind i j (e ∙ ap (λ x. i + length x) h.0) (name_has_none (c ∷ n) (and_from (continues_name c) (list_all continues_name n) k p.1)) ∙ ap (λ x. placed i x ∷ query_tokens_from j none behind) q)
token_ends (number n) bs behind i j e h =
    let q : number_token n ≡ number n = rw (le-leb n greatest_number h.1) refl in
    digits_end n bs behind i j e h.0 ∙ ap (λ x. placed i x ∷ query_tokens_from j none behind) q
token_ends (text t) bs behind i j e h =
    let k : j ≡ suc i + length (doubled t) + 1 = omega (arith, e, ap length h.0, length-append (doubled t) (39 ∷ [])) in
    rw h.0 (ap (query_tokens_from (suc i) (in_text i [])) (append_assoc (doubled t) (39 ∷ []) behind) ∙ text_on t behind [] (suc i) j i k h.1)
token_ends (sign s) bs behind i j e h = sign_ends s bs behind i j e h
token_ends bad bs behind i j e (inl h) = rw h.1 (stray_ends h.0 behind i j (one_more i j bs h.0 e h.1) h.2)
token_ends bad bs behind i j e (inr (inl h)) =
    let q : quoted_token h.0 ≡ bad = rw h.3 refl in
    rw h.1 (quotes_end h.0 behind i j (e ∙ ap (λ x. i + length x) h.1) h.2 ∙ ap (λ x. placed i x ∷ query_tokens_from j none behind) q)
token_ends bad bs behind i j e (inr (inr (inl h))) = by_quote h.1
  where
    by_quote : ((bs ≡ 34 ∷ h.0) × (has_no_quote h.0 ≡ true)) ⊎ (bs ≡ 39 ∷ doubled h.0) → Ends i j bs behind bad
    by_quote (inl k) = rw (k.0, h.2) (ap (query_tokens_from (suc i) (in_quotes i [])) (append-nil h.0) ∙ quotes_open h.0 [] (suc i) i k.1)
    by_quote (inr k) = rw (k, h.2) (ap (query_tokens_from (suc i) (in_text i [])) (append-nil (doubled h.0)) ∙ text_open h.0 [] (suc i) i)
token_ends bad bs behind i j e (inr (inr (inr h))) =
    let q : number_token h.0 ≡ bad = rw (lt-leb h.0 greatest_number h.2) refl in
    digits_end h.0 bs behind i j e h.1 ∙ ap (λ x. placed i x ∷ query_tokens_from j none behind) q

skip_blanks : (blanks query : List ℕ) (i j : ℕ) → j ≡ i + length blanks → list_all is_blank blanks ≡ true → query_tokens_from i none (blanks ++ query) ≡ query_tokens_from j none query
skip_blanks [] query i j e h = ap (λ k. query_tokens_from k none query) (omega (arith, e))
skip_blanks (b ∷ blanks) query i j e h =
    let p = and_parts (is_blank b) (list_all is_blank blanks) h in
    rw p.0 (skip_blanks blanks query (suc i) j (omega (arith, e)) p.1)

all_tokens : (ts : List PlacedToken) (i : ℕ) (query : List ℕ) → AreQueryTokens i query ts → query_tokens_from i none query ≡ ts
all_tokens [] i query h = ap (query_tokens_from i none) (sym (append-nil query)) ∙ skip_blanks query [] i (i + length query) refl h
all_tokens (t ∷ ts) i query h =
    ap (query_tokens_from i none) h.3 ∙ skip_blanks h.0 (h.1 ++ h.2) i t.place h.5 h.4 ∙ token_ends t.token h.1 h.2 t.place (t.place + length h.1) refl h.6 ∙ ap (λ x. t ∷ x) (all_tokens ts (t.place + length h.1) h.2 h.7)

pub one_list_of_query_tokens : OneListOfQueryTokens
one_list_of_query_tokens query ts h = all_tokens ts 0 query h
