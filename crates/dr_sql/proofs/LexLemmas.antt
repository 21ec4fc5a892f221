-- One more round of the loops that read tokens.
use Rattle.std.specs.Prelude.{◌≡◌, ℕ, zero, suc, ◌+◌, ◌-◌, ◌*◌, ◌<◌, ◌≤◌, ◌==◌, nat_le, List, [], ◌∷◌, ◌++◌, length, take, drop, Bool, true, false, if◌then◌else◌, Some, None}
use Rattle.std.specs.List.{list_all, slice_range}
use Rattle.std.proofs.Common.{refl, sym, ap, subst, ◌∙◌, arith, append_assoc, append-nil, true≢false, length-append, length-take, get_or}
use Rattle.std.proofs.lemmas.Bool.{eqb-true}
use Rattle.std.proofs.lemmas.Bool.Decides.{nat_tests}
use Rattle.std.proofs.lemmas.List.{take-append-drop, drop_more, drop_all, drop-drop, map-append}
use Rattle.dr_meaning.specs.SchemaText.{is_blank}
use Rattle.dr_meaning.specs.Tokens.{PlacedToken, placed, greatest_number, query_tokens}
use Rattle.dr_meaning.specs.TokenLaws.{begins_so, digits_value, doubled, AreQueryTokens}
use Rattle.dr_meaning.proofs.QueryTokenLemmas.{doubled_quote, doubled_other, blank_before, token_before}
use Rattle.dr_meaning.proofs.OneQueryTokenLemmas.{one_list_of_query_tokens}
use Rattle.dr_sql.specs.TokenViews.{token_view, placed_view, placed_views}
use Rattle.dr_sql.specs.Lexing.{BeginsWith, EndsText, bounded}
use Rattle.dr_sql.specs.declared.token.Token.{Token}
use Rattle.dr_sql.specs.declared.token.PlacedToken as code

-- ---- numbers

value_grows : (n : ℕ) (ds : List ℕ) → n ≤ digits_value n ds
value_grows n [] = omega arith
value_grows n (d ∷ ds) = let h = value_grows (n * 10 + (d - 48)) ds in omega (arith, h)

past_by : (n : ℕ) (b : Bool) → nat_le n greatest_number ≡ b → (if b then Some n else None) ≡ None → greatest_number < n
past_by n true e h = absurd (cc h)
past_by n false e h = grind (arith, nat_tests)

past : (n : ℕ) → bounded n ≡ None → greatest_number < n
past n h = past_by n (nat_le n greatest_number) refl h

pub bounded_past : (n : ℕ) → greatest_number < n → bounded n ≡ None
bounded_past n h = let e : nat_le n greatest_number ≡ false = grind (arith, nat_tests) in rw e refl

pub bounded_small : (n : ℕ) → n ≤ greatest_number → bounded n ≡ Some n
bounded_small n h = let e : nat_le n greatest_number ≡ true = grind (arith, nat_tests) in rw e refl

small_by : (n m : ℕ) (b : Bool) → nat_le n greatest_number ≡ b → (if b then Some n else None) ≡ Some m → (m ≡ n) × (n ≤ greatest_number)
small_by n m true e h = let k : m ≡ n = cc in let l : n ≤ greatest_number = grind (arith, nat_tests) in (k, l)
small_by n m false e h = absurd (cc h)

pub bounded_is : (n m : ℕ) → bounded n ≡ Some m → (m ≡ n) × (n ≤ greatest_number)
bounded_is n m h = small_by n m (nat_le n greatest_number) refl h

pub digits_past : (n : ℕ) (ds : List ℕ) (k : ℕ) → k < length ds → bounded (n * 10 + (get_or ds k 0 - 48)) ≡ None → bounded (digits_value n (drop k ds)) ≡ None
digits_past n ds k l h =
    let m = n * 10 + (get_or ds k 0 - 48) in
    let g = value_grows m (drop (k + 1) ds) in
    let p = past m h in
    ap (λ xs. bounded (digits_value n xs)) (drop_more ds k 0 l) ∙ bounded_past (digits_value m (drop (k + 1) ds)) (omega (arith, g, p))

pub one_digit : (n m : ℕ) (ds : List ℕ) (k : ℕ) → k < length ds → bounded (n * 10 + (get_or ds k 0 - 48)) ≡ Some m → bounded (digits_value n (drop k ds)) ≡ bounded (digits_value m (drop (k + 1) ds))
one_digit n m ds k l h =
    ap (λ xs. bounded (digits_value n xs)) (drop_more ds k 0 l) ∙ ap (λ i. bounded (digits_value i (drop (k + 1) ds))) (sym (bounded_is (n * 10 + (get_or ds k 0 - 48)) m h).0)

-- ---- texts

abbrev quote_first : List ℕ → Bool
quote_first bs = begins_so (λ b. b == 39) bs

some_left : (bs : List ℕ) (k : ℕ) → quote_first (drop k bs) ≡ true → k < length bs
some_left [] zero h = absurd (true≢false (sym h))
some_left [] (suc k) h = absurd (true≢false (sym h))
some_left (b ∷ bs) zero h = omega arith
some_left (b ∷ bs) (suc k) h = let l = some_left bs k h in omega (arith, l)

first_of : (bs : List ℕ) (k : ℕ) (c : Bool) → k < length bs → quote_first (drop k bs) ≡ c → (get_or bs k 0 == 39) ≡ c
first_of bs k c l h = sym (ap quote_first (drop_more bs k 0 l)) ∙ h

-- so many bytes write a text
abbrev pub WritesText : List ℕ → ℕ → Type 0
WritesText bs n = (w : List ℕ) × (length (doubled w) ≡ n) × (bs ≡ doubled w ++ drop n bs)

pub one_byte_more : (bs : List ℕ) (n : ℕ) → WritesText bs n → n < length bs → quote_first (drop n bs) ≡ false → WritesText bs (n + 1)
one_byte_more bs n h l q =
    let d = get_or bs n 0 in
    let w = h.0 in
    let more = doubled_other w d (first_of bs n false l q) in
    let size : length (doubled (w ++ d ∷ [])) ≡ n + 1 = ap length more ∙ (length-append (doubled w) (d ∷ []) ∙ ap (λ k. k + 1) h.1) in
    let split : bs ≡ doubled (w ++ d ∷ []) ++ drop (n + 1) bs = h.2 ∙ (ap (λ xs. doubled w ++ xs) (drop_more bs n 0 l) ∙ (sym (append_assoc (doubled w) (d ∷ []) (drop (n + 1) bs)) ∙ ap (λ xs. xs ++ drop (n + 1) bs) (sym more))) in
    (w ++ d ∷ [], size, split)

quote_split : (bs : List ℕ) (n : ℕ) → quote_first (drop n bs) ≡ true → drop n bs ≡ 39 ∷ drop (n + 1) bs
quote_split bs n q =
    let l = some_left bs n q in
    drop_more bs n 0 l ∙ ap (λ x. x ∷ drop (n + 1) bs) (eqb-true (get_or bs n 0) 39 (first_of bs n true l q))

pub two_quotes_more : (bs : List ℕ) (n : ℕ) → WritesText bs n → quote_first (drop n bs) ≡ true → quote_first (drop (n + 1) bs) ≡ true → WritesText bs (n + 2)
two_quotes_more bs n h q r =
    let w = h.0 in
    let more = doubled_quote w in
    let size : length (doubled (w ++ 39 ∷ [])) ≡ n + 2 = ap length more ∙ (length-append (doubled w) (39 ∷ 39 ∷ []) ∙ ap (λ k. k + 2) h.1) in
    let next : (n + 1) + 1 ≡ n + 2 = omega arith in
    let rest : drop (n + 1) bs ≡ 39 ∷ drop (n + 2) bs = quote_split bs (n + 1) r ∙ ap (λ k. 39 ∷ drop k bs) next in
    let both : drop n bs ≡ 39 ∷ 39 ∷ drop (n + 2) bs = quote_split bs n q ∙ ap (λ xs. 39 ∷ xs) rest in
    let split : bs ≡ doubled (w ++ 39 ∷ []) ++ drop (n + 2) bs =
    h.2 ∙ (ap (λ xs. doubled w ++ xs) both ∙ (sym (append_assoc (doubled w) (39 ∷ 39 ∷ []) (drop (n + 2) bs)) ∙ ap (λ xs. xs ++ drop (n + 2) bs) (sym more))) in
    (w ++ 39 ∷ [], size, split)

pub text_ends : (bs : List ℕ) (n : ℕ) → WritesText bs n → quote_first (drop n bs) ≡ true → quote_first (drop (n + 1) bs) ≡ false → EndsText bs n
text_ends bs n h q r = (h.0, drop (n + 1) bs, h.2 ∙ ap (λ xs. doubled h.0 ++ xs) (quote_split bs n q), h.1, r)

-- ---- tokens

pub range_is : (bs : List ℕ) (i n : ℕ) → slice_range bs i (i + n) ≡ take n (drop i bs)
range_is bs i n = let e : (i + n) - i ≡ n = omega arith in ap (λ k. take k (drop i bs)) e

pub blank_step : (bs : List ℕ) (i : ℕ) (ts : List PlacedToken) → i < length bs → is_blank (get_or bs i 0) ≡ true → AreQueryTokens (i + 1) (drop (i + 1) bs) ts
    → AreQueryTokens i (drop i bs) ts
blank_step bs i ts l b h =
    let n : i + 1 ≡ suc i = omega arith in
    subst (λ xs. AreQueryTokens i xs ts) (sym (drop_more bs i 0 l))
    (blank_before i (get_or bs i 0) (drop (i + 1) bs) ts b (subst (λ k. AreQueryTokens k (drop (i + 1) bs) ts) n h))

pub token_step : (bs : List ℕ) (i n : ℕ) (t : Token) (ts : List PlacedToken) → BeginsWith (drop i bs) t n → AreQueryTokens (i + n) (drop (i + n) bs) ts
    → AreQueryTokens i (drop i bs) (placed i (token_view t) ∷ ts)
token_step bs i n t ts b h =
    let front = take n (drop i bs) in
    let behind = drop n (drop i bs) in
    let size : length front ≡ n = omega (arith, length-take n (drop i bs), b.1) in
    let moved : behind ≡ drop (i + n) bs = drop-drop n i bs in
    let rest : AreQueryTokens (i + length front) behind ts = subst (λ k. AreQueryTokens (i + k) behind ts) (sym size) (subst (λ xs. AreQueryTokens (i + n) xs ts) (sym moved) h) in
    subst (λ xs. AreQueryTokens i xs (placed i (token_view t) ∷ ts)) (take-append-drop n (drop i bs)) (token_before i (token_view t) front behind ts b.2 rest)

pub token_pushed : (us vs : List code.PlacedToken) (t : code.PlacedToken) (ts : List PlacedToken) → vs ≡ us ++ t ∷ [] → placed_views us ++ placed_view t ∷ ts ≡ placed_views vs ++ ts
token_pushed us vs t ts e = sym (ap (λ xs. placed_views xs ++ ts) e ∙ (ap (λ xs. xs ++ ts) (map-append placed_view us (t ∷ [])) ∙ append_assoc (placed_views us) (placed_view t ∷ []) ts))

pub all_read : (bs : List ℕ) (i : ℕ) (us : List code.PlacedToken) → length bs ≤ i → ((ts : List PlacedToken) → AreQueryTokens i (drop i bs) ts → AreQueryTokens 0 bs (placed_views us ++ ts))
    → placed_views us ≡ query_tokens bs
all_read bs i us l h =
    let ended : AreQueryTokens i (drop i bs) [] = ap (list_all is_blank) (drop_all i bs l) in
    sym (one_list_of_query_tokens bs (placed_views us ++ []) (h [] ended) ∙ append-nil (placed_views us))
