-- Tokens at the front of bytes.
use Rattle.std.specs.Prelude.{◌≡◌, ℕ, suc, ◌+◌, ◌-◌, ◌<◌, ◌≤◌, ◌&&◌, ◌==◌, nat_lt, not, List, [], ◌∷◌, ◌++◌, length, take, drop, Bool, true, false, cond, if◌then◌else◌, Some, None}
use Rattle.std.specs.List.{list_all, position, position_or_len}
use denote.Ref.{Bor}
use Rattle.std.specs.Str.{IsUtf8, IsCharBoundary}
use Rattle.std.proofs.Common.{refl, sym, ap, ap₂, subst, ◌∙◌, inl, inr, arith, append_assoc, append-nil, true≢false, length-append, length-drop, get_or}
use Rattle.std.proofs.Math.Seq.{take-append_seam, drop-append_seam}
use Rattle.std.proofs.lemmas.Bool.{eqb-true}
use Rattle.std.proofs.lemmas.Bool.Decides.{nat_tests}
use Rattle.std.proofs.lemmas.Option.{cond_some}
use Rattle.std.proofs.lemmas.List.{take-append-drop, get_or-drop}
use Rattle.std.proofs.lemmas.List.Sums.{prefix_len-le-length, fails_before_first}
use Rattle.std.proofs.lemmas.List.Folds.{length-prefix_len}
use Rattle.std.proofs.lemmas.Str.{IsCharBoundary-after_ascii}
use Rattle.dr_meaning.specs.Schema.{is_name, begins_name, continues_name}
use Rattle.dr_meaning.specs.SchemaText.{is_blank}
use Rattle.dr_meaning.specs.Tokens.{bad, text, sign_token, name_token, number_token, quoted_token, is_digit}
use Rattle.dr_meaning.specs.TokenLaws.{begins_so, digits_value, has_no_quote, doubled, IsQueryToken}
use Rattle.dr_meaning.proofs.QueryTokenLemmas.{word_ends, number_ends, quotes_end, sign_is}
use Rattle.dr_sql.specs.TokenViews.{token_view, undoubled}
use Rattle.dr_sql.specs.Lexing.{BeginsWith, EndsText, NeverEnds}
use Rattle.dr_sql.specs.declared.token.Token.{Token}

-- ---- the first place that passes

pub end_found : (P : ℕ → Bool) (bs : List ℕ) (e : ℕ) → position P bs ≡ Some e → (position_or_len P bs < length bs) × (position_or_len P bs ≡ e)
end_found P bs e h =
    let k = cond_some (nat_lt (position_or_len P bs) (length bs)) (position_or_len P bs) e h in
    let l : nat_lt (position_or_len P bs) (length bs) ≡ true = k.0 in
    (grind (arith, nat_tests), k.1)

cond_none : (b : Bool) (x : ℕ) → cond b (Some x) None ≡ None → b ≡ false
cond_none true x h = cc
cond_none false x h = refl

pub end_is_length : (P : ℕ → Bool) (bs : List ℕ) → position P bs ≡ None → length bs ≡ position_or_len P bs
end_is_length P bs h =
    let k : nat_lt (position_or_len P bs) (length bs) ≡ false = cond_none (nat_lt (position_or_len P bs) (length bs)) (position_or_len P bs) h in
    let l : position_or_len P bs ≤ length bs = prefix_len-le-length (λ b. not (P b)) bs in
    grind (arith, nat_tests)

-- ---- a front of bytes that pass

abbrev front : (ℕ → Bool) → List ℕ → ℕ
front p bs = position_or_len (λ b. not (p b)) bs

front_more : (p : ℕ → Bool) (b : ℕ) (bs : List ℕ) → p b ≡ true → front p (b ∷ bs) ≡ suc (front p bs)
front_more p b bs h = let e : 1 + front p bs ≡ suc (front p bs) = omega arith in rw h e

front_ends : (p : ℕ → Bool) (b : ℕ) (bs : List ℕ) → p b ≡ false → front p (b ∷ bs) ≡ 0
front_ends p b bs h = rw h refl

front_step : (p : ℕ → Bool) (b : ℕ) (bs : List ℕ) (c : Bool) → p b ≡ c → list_all p (take (front p bs) bs) ≡ true → list_all p (take (front p (b ∷ bs)) (b ∷ bs)) ≡ true
front_step p b bs true e h = rw (front_more p b bs e) (ap₂ (λ x y. x && y) e h)
front_step p b bs false e h = rw (front_ends p b bs e) refl

pub front_all : (p : ℕ → Bool) (bs : List ℕ) → list_all p (take (front p bs) bs) ≡ true
front_all p [] = refl
front_all p (b ∷ bs) = front_step p b bs (p b) refl (front_all p bs)

behind_step : (p : ℕ → Bool) (b : ℕ) (bs : List ℕ) (c : Bool) → p b ≡ c → begins_so p (drop (front p bs) bs) ≡ false → begins_so p (drop (front p (b ∷ bs)) (b ∷ bs)) ≡ false
behind_step p b bs true e h = rw (front_more p b bs e) h
behind_step p b bs false e h = rw (front_ends p b bs e) e

behind_front : (p : ℕ → Bool) (bs : List ℕ) → begins_so p (drop (front p bs) bs) ≡ false
behind_front p [] = refl
behind_front p (b ∷ bs) = behind_step p b bs (p b) refl (behind_front p bs)

-- ---- bytes that begin with a token

begins_by : (bytes front behind : List ℕ) (t : Token) (n : ℕ) → bytes ≡ front ++ behind → n ≡ length front → 0 < length front → IsQueryToken (token_view t) front behind
    → BeginsWith bytes t n
begins_by bytes front behind t n e l s h =
    let cut : take n bytes ≡ front = ap₂ take l e ∙ take-append_seam front behind in
    let rest : drop n bytes ≡ behind = ap₂ drop l e ∙ drop-append_seam front behind in
    let within : n ≤ length bytes = omega (arith, ap length e, length-append front behind) in
    (omega arith, within, rw (cut, rest) h)

both_pass : (a b : Bool) → a ≡ true → b ≡ true → (a && b) ≡ true
both_pass a b p q = rw (p, q) refl

name_front : (b : ℕ) (bs : List ℕ) → begins_name b ≡ true → is_name (take (front continues_name (b ∷ bs)) (b ∷ bs)) ≡ true
name_front b bs h = let c : continues_name b ≡ true = rw h refl in rw (front_more continues_name b bs c) (both_pass _ _ h (front_all continues_name bs))

front_some : (p : ℕ → Bool) (b : ℕ) (bs : List ℕ) → p b ≡ true → 0 < length (take (front p (b ∷ bs)) (b ∷ bs))
front_some p b bs h = let e = front_more p b bs h in subst (λ n. 0 < length (take n (b ∷ bs))) (sym e) (omega arith)

length_front : (p : ℕ → Bool) (bs : List ℕ) → front p bs ≡ length (take (front p bs) bs)
length_front p bs = sym (length-prefix_len (λ x. not (not (p x))) bs)

pub word_begins : (bytes : List ℕ) (n : ℕ) (t : Token) → begins_so begins_name bytes ≡ true → n ≡ position_or_len (λ b. not (continues_name b)) bytes
    → token_view t ≡ name_token (take n bytes) → BeginsWith bytes t n
word_begins [] n t h l e = absurd (true≢false (sym h))
word_begins (b ∷ bs) n t h l e =
    let w = take (front continues_name (b ∷ bs)) (b ∷ bs) in
    let behind = drop (front continues_name (b ∷ bs)) (b ∷ bs) in
    let c : continues_name b ≡ true = rw h refl in
    let k : token_view t ≡ name_token w = e ∙ ap (λ m. name_token (take m (b ∷ bs))) l in
    begins_by (b ∷ bs) w behind t n (sym (take-append-drop (front continues_name (b ∷ bs)) (b ∷ bs))) (l ∙ length_front continues_name (b ∷ bs)) (front_some continues_name b bs c)
    (subst (λ q. IsQueryToken q w behind) (sym k) (word_ends w behind (name_front b bs h, behind_front continues_name (b ∷ bs))))

pub number_begins : (bytes : List ℕ) (n : ℕ) (t : Token) → begins_so is_digit bytes ≡ true → n ≡ position_or_len (λ b. not (is_digit b)) bytes
    → token_view t ≡ number_token (digits_value 0 (take n bytes)) → BeginsWith bytes t n
number_begins [] n t h l e = absurd (true≢false (sym h))
number_begins (b ∷ bs) n t h l e =
    let w = take (front is_digit (b ∷ bs)) (b ∷ bs) in
    let behind = drop (front is_digit (b ∷ bs)) (b ∷ bs) in
    let k : token_view t ≡ number_token (digits_value 0 w) = e ∙ ap (λ m. number_token (digits_value 0 (take m (b ∷ bs)))) l in
    begins_by (b ∷ bs) w behind t n (sym (take-append-drop (front is_digit (b ∷ bs)) (b ∷ bs))) (l ∙ length_front is_digit (b ∷ bs)) (front_some is_digit b bs h)
    (subst (λ q. IsQueryToken q w behind) (sym k) (number_ends (digits_value 0 w) w behind (front_some is_digit b bs h, front_all is_digit (b ∷ bs), refl, behind_front is_digit (b ∷ bs))))

-- ---- double quotes

abbrev is_quote : ℕ → Bool
is_quote b = b == 34

quote_more : (b : ℕ) (bs : List ℕ) → (b == 34) ≡ false → position_or_len is_quote (b ∷ bs) ≡ suc (position_or_len is_quote bs)
quote_more b bs h = let e : 1 + position_or_len is_quote bs ≡ suc (position_or_len is_quote bs) = omega arith in rw h e

quote_here : (b : ℕ) (bs : List ℕ) → (b == 34) ≡ true → position_or_len is_quote (b ∷ bs) ≡ 0
quote_here b bs h = rw h refl

-- the bytes before the first double quote, and those behind it
pub record QuoteSplits (bs : List ℕ) (e : ℕ) : Type 0 where
  pub before : List ℕ
  pub behind : List ℕ
  pub whole : bs ≡ before ++ 34 ∷ behind
  pub size : length before ≡ e
  pub none_before : has_no_quote before ≡ true

split_step : (b : ℕ) (bs : List ℕ) (c : Bool) → (b == 34) ≡ c → (position_or_len is_quote bs < length bs → QuoteSplits bs (position_or_len is_quote bs))
    → position_or_len is_quote (b ∷ bs) < length (b ∷ bs) → QuoteSplits (b ∷ bs) (position_or_len is_quote (b ∷ bs))
split_step b bs true e f h = record {
  before = [];
  behind = bs;
  whole = ap (λ x. x ∷ bs) (eqb-true b 34 e);
  size = sym (quote_here b bs e);
  none_before = refl;
}
split_step b bs false e f h =
    let k = quote_more b bs e in
    let s = f (omega (arith, k, h)) in
    record {
      before = b ∷ s.before;
      behind = s.behind;
      whole = ap (λ xs. b ∷ xs) s.whole;
      size = ap suc s.size ∙ sym k;
      none_before = both_pass (not (b == 34)) (has_no_quote s.before) (ap not e) s.none_before;
    }

quote_splits : (bs : List ℕ) → position_or_len is_quote bs < length bs → QuoteSplits bs (position_or_len is_quote bs)
quote_splits [] h = absurd (omega (arith, h))
quote_splits (b ∷ bs) h = split_step b bs (b == 34) refl (quote_splits bs) h

pub quote_found : (bs : List ℕ) (e : ℕ) → position (λ b. b == 34) bs ≡ Some e → QuoteSplits bs e
quote_found bs e h = let k = end_found is_quote bs e h in subst (QuoteSplits bs) k.1 (quote_splits bs k.0)

missing_step : (b : ℕ) (bs : List ℕ) (c : Bool) → (b == 34) ≡ c → (length bs ≡ position_or_len is_quote bs → has_no_quote bs ≡ true)
    → length (b ∷ bs) ≡ position_or_len is_quote (b ∷ bs) → has_no_quote (b ∷ bs) ≡ true
missing_step b bs true e f h = absurd (omega (arith, h, quote_here b bs e))
missing_step b bs false e f h = both_pass (not (b == 34)) (has_no_quote bs) (ap not e) (f (omega (arith, h, quote_more b bs e)))

quote_missing : (bs : List ℕ) → length bs ≡ position_or_len is_quote bs → has_no_quote bs ≡ true
quote_missing [] h = refl
quote_missing (b ∷ bs) h = missing_step b bs (b == 34) refl (quote_missing bs) h

pub quoted_begins : (rest : List ℕ) (e : ℕ) (t : Token) → position (λ b. b == 34) rest ≡ Some e → token_view t ≡ quoted_token (take e rest) → BeginsWith (34 ∷ rest) t (e + 2)
quoted_begins rest e t h k =
    let s = quote_found rest e h in
    let w : take e rest ≡ s.before = ap₂ take (sym s.size) s.whole ∙ take-append_seam s.before (34 ∷ s.behind) in
    let front = 34 ∷ (s.before ++ 34 ∷ []) in
    let cut : 34 ∷ rest ≡ front ++ s.behind = ap (λ xs. 34 ∷ xs) (s.whole ∙ sym (append_assoc s.before (34 ∷ []) s.behind)) in
    let size : e + 2 ≡ length front = omega (arith, s.size, length-append s.before (34 ∷ [])) in
    begins_by (34 ∷ rest) front s.behind t (e + 2) cut size (omega arith)
    (subst (λ q. IsQueryToken q front s.behind) (sym (k ∙ ap quoted_token w)) (quotes_end s.before s.behind s.none_before))

pub unclosed_begins : (rest : List ℕ) (t : Token) → position (λ b. b == 34) rest ≡ None → token_view t ≡ bad → BeginsWith (34 ∷ rest) t (length rest + 1)
unclosed_begins rest t h k =
    begins_by (34 ∷ rest) (34 ∷ rest) [] t (length rest + 1) (sym (append-nil (34 ∷ rest))) (omega arith) (omega arith)
    (subst (λ q. IsQueryToken q (34 ∷ rest) []) (sym k) (inr (inr (inl (rest, inl (refl, quote_missing rest (end_is_length is_quote rest h)), refl)))))

pub bad_is : token_view Token.Bad ≡ bad
bad_is = refl

-- ---- single quotes

pub text_is : (t : Bor (List ℕ)) → token_view (Token.Text t) ≡ text (undoubled t.now)
text_is t = refl

undoubled_step : (b : ℕ) (w : List ℕ) (c : Bool) → (b == 39) ≡ c → undoubled (doubled w) ≡ w → undoubled (if c then 39 ∷ 39 ∷ doubled w else b ∷ doubled w) ≡ b ∷ w
undoubled_step b w true e h = ap₂ (λ x xs. x ∷ xs) (sym (eqb-true b 39 e)) h
undoubled_step b w false e h = rw e (ap (λ xs. b ∷ xs) h)

pub undoubled_doubled : (w : List ℕ) → undoubled (doubled w) ≡ w
undoubled_doubled [] = refl
undoubled_doubled (b ∷ w) = undoubled_step b w (b == 39) refl (undoubled_doubled w)

pub text_begins : (rest inner : List ℕ) (e : ℕ) (t : Token) → EndsText rest e → inner ≡ take e rest → token_view t ≡ text (undoubled inner) → BeginsWith (39 ∷ rest) t (e + 2)
text_begins rest inner e t h i k =
    let w = h.0 in
    let behind = h.1 in
    let cut : take e rest ≡ doubled w = ap₂ take (sym h.3) h.2 ∙ take-append_seam (doubled w) (39 ∷ behind) in
    let word : token_view t ≡ text w = k ∙ ap text (ap undoubled (i ∙ cut) ∙ undoubled_doubled w) in
    let front = 39 ∷ (doubled w ++ 39 ∷ []) in
    let split : 39 ∷ rest ≡ front ++ behind = ap (λ xs. 39 ∷ xs) (h.2 ∙ sym (append_assoc (doubled w) (39 ∷ []) behind)) in
    let size : e + 2 ≡ length front = omega (arith, h.3, length-append (doubled w) (39 ∷ [])) in
    begins_by (39 ∷ rest) front behind t (e + 2) split size (omega arith) (subst (λ q. IsQueryToken q front behind) (sym word) (refl, h.4))

pub text_never_ends : (rest : List ℕ) (t : Token) → NeverEnds rest → token_view t ≡ bad → BeginsWith (39 ∷ rest) t (length rest + 1)
text_never_ends rest t h k =
    begins_by (39 ∷ rest) (39 ∷ rest) [] t (length rest + 1) (sym (append-nil (39 ∷ rest))) (omega arith) (omega arith)
    (subst (λ q. IsQueryToken q (39 ∷ rest) []) (sym k) (inr (inr (inl (h.0, inr (ap (λ xs. 39 ∷ xs) h.1), refl)))))

-- ---- signs

pub sign_begins : (b : ℕ) (rest : List ℕ) (t : Token) → is_blank b ≡ false → begins_name b ≡ false → is_digit b ≡ false → (b == 34) ≡ false → (b == 39) ≡ false → (b == 60) ≡ false
    → (b == 62) ≡ false → token_view t ≡ sign_token b → BeginsWith (b ∷ rest) t 1
sign_begins b rest t h1 h2 h3 h4 h5 h6 h7 k =
    begins_by (b ∷ rest) (b ∷ []) rest t 1 refl refl (omega arith) (subst (λ q. IsQueryToken q (b ∷ []) rest) (sym k) (sign_is b rest h1 h2 h3 h4 h5 h6 h7))

-- ---- where a text may be cut

at_seam : (before behind : List ℕ) (c : ℕ) → get_or (before ++ c ∷ behind) (length before) 0 ≡ c
at_seam [] behind c = refl
at_seam (b ∷ before) behind c = at_seam before behind c

-- before a byte of ASCII
pub boundary_before : (bs before behind : List ℕ) (place e c : ℕ) → c < 128 → place ≤ length bs → drop place bs ≡ before ++ c ∷ behind → length before ≡ e → IsCharBoundary bs (place + e)
boundary_before bs before behind place e c l p h s =
    let size : length bs - place ≡ length before + suc (length behind) = sym (length-drop place bs) ∙ (ap length h ∙ length-append before (c ∷ behind)) in
    let here : get_or bs (place + e) 0 ≡ c = sym (get_or-drop place bs e 0) ∙ (ap₂ (λ xs i. get_or xs i 0) h (sym s) ∙ at_seam before behind c) in
    (omega (arith, size, s, p), λ _ g. absurd (omega (arith, here, g, l)))

name_is_ascii : (b : ℕ) → continues_name b ≡ true → b < 128
name_is_ascii b h = grind (arith, nat_tests)

some_name : (bs : List ℕ) → begins_so begins_name bs ≡ true → 0 < front continues_name bs
some_name [] h = absurd (true≢false (sym h))
some_name (b ∷ bs) h = let c : continues_name b ≡ true = rw h refl in let e = front_more continues_name b bs c in omega (arith, e)

not_false : (b : Bool) → not b ≡ false → b ≡ true
not_false true h = refl
not_false false h = absurd (true≢false h)

-- behind bytes of a name
pub boundary_behind_name : (bs : List ℕ) (place n : ℕ) → IsUtf8 bs → place ≤ length bs → begins_so begins_name (drop place bs) ≡ true → n ≡ position_or_len (λ b. not (continues_name b)) (drop place bs)
    → IsCharBoundary bs (place + n)
boundary_behind_name bs place n u p h l =
    let rest = drop place bs in
    let some : 0 < front continues_name rest = some_name rest h in
    let within : front continues_name rest ≤ length rest = prefix_len-le-length (λ x. not (not (continues_name x))) rest in
    let size : length rest ≡ length bs - place = length-drop place bs in
    let m = front continues_name rest - 1 in
    let before : m < front continues_name rest = omega (arith, some) in
    let last : continues_name (get_or rest m 0) ≡ true = not_false _ (fails_before_first (λ b. not (continues_name b)) rest m 0 before) in
    let small : get_or rest m 0 < 128 = name_is_ascii (get_or rest m 0) last in
    let here : get_or bs (place + m) 0 < 128 = subst (λ x. x < 128) (get_or-drop place bs m 0) small in
    let inside : place + m < length bs = omega (arith, before, within, size, p) in
    let next : (place + m) + 1 ≡ place + n = omega (arith, some, l) in
    subst (IsCharBoundary bs) next (IsCharBoundary-after_ascii bs (place + m) u inside here)
