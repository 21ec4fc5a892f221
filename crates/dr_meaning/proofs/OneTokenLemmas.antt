-- A text is the blanks and tokens of one list of tokens alone.
use Rattle.std.proofs.Common.{◌≡◌, ◌⊎◌, inl, inr, ℕ, suc, ◌+◌, ◌-◌, List, [], ◌∷◌, ◌++◌, length, true, false, ◌||◌, refl, sym, ap, ◌∙◌, subst, true≢false, arith, append_assoc, append-nil, length-append}
use Rattle.std.specs.Prelude.{◌==◌}
use Rattle.std.specs.List.{list_all}
use Rattle.std.proofs.lemmas.Bool.{and_parts, or_parts, or_cases, eqb-true}
use Rattle.dr_meaning.specs.Schema.{begins_name, continues_name}
use Rattle.dr_meaning.specs.SchemaText.{Token, name, open_brace, close_brace, semicolon, bad, Placed, is_blank, tokens_from}
use Rattle.dr_meaning.specs.TokenLaws.{begins_so, IsToken, AreTokens, OneListOfTokens}
use Rattle.dr_meaning.proofs.TokenLemmas.{no_name}

-- a blank begins no name
pub blank_begins : (b : ℕ) → is_blank b ≡ true → begins_name b ≡ false
blank_begins b h = by_four (or_cases _ _ h)
  where
    at : (c : ℕ) → (b == c) ≡ true → begins_name c ≡ false → begins_name b ≡ false
    at c e k = subst (λ x. begins_name x ≡ false) (sym (eqb-true b c e)) k

    by_two : ((b == 32) ≡ true) ⊎ ((b == 9) ≡ true) → begins_name b ≡ false
    by_two (inl e) = at 32 e refl
    by_two (inr e) = at 9 e refl

    by_three : (((b == 32) || (b == 9)) ≡ true) ⊎ ((b == 13) ≡ true) → begins_name b ≡ false
    by_three (inl e) = by_two (or_cases _ _ e)
    by_three (inr e) = at 13 e refl

    by_four : (((b == 32) || (b == 9) || (b == 13)) ≡ true) ⊎ ((b == 10) ≡ true) → begins_name b ≡ false
    by_four (inl e) = by_three (or_cases _ _ e)
    by_four (inr e) = at 10 e refl

skip_blanks : (blanks text : List ℕ) (i j : ℕ) → j ≡ i + length blanks → list_all is_blank blanks ≡ true → tokens_from i [] (blanks ++ text) ≡ tokens_from j [] text
skip_blanks [] text i j e h = ap (λ k. tokens_from k [] text) (omega (arith, e))
skip_blanks (b ∷ blanks) text i j e h =
    let p = and_parts (is_blank b) (list_all is_blank blanks) h in
    rw (blank_begins b p.0, p.0) (skip_blanks blanks text (suc i) j (omega (arith, e)) p.1)

-- the token of a word, from its first byte on
word_from : (bs behind : List ℕ) (c : ℕ) (w : List ℕ) (i j p : ℕ) → j ≡ i + length bs → j ≡ p + suc (length w + length bs) → list_all continues_name bs ≡ true → begins_so continues_name behind ≡ false
    → tokens_from i (c ∷ w) (bs ++ behind) ≡ record { place = p; token = name (c ∷ (w ++ bs)) } ∷ tokens_from j [] behind
word_from [] [] c w i j p e f h g = let q : i - suc (length w) ≡ p = omega (arith, e, f) in rw (q, append-nil w) refl
word_from [] (b ∷ behind) c w i j p e f h g =
    let q : i - suc (length w) ≡ p = omega (arith, e, f) in
    let k : i ≡ j = omega (arith, e) in
    rw (g, no_name (c ∷ w) b g, q, append-nil w, k) refl
word_from (b ∷ bs) behind c w i j p e f h g =
    let q = and_parts (continues_name b) (list_all continues_name bs) h in
    rw q.0 (word_from bs behind c (w ++ b ∷ []) (suc i) j p (omega (arith, e)) (omega (arith, f, length-append w (b ∷ []))) q.1 g ∙ ap (λ x. record { place = p; token = name (c ∷ x) } ∷ tokens_from j [] behind) (append_assoc w (b ∷ []) bs))

token_from : (t : Token) (bs behind : List ℕ) (i j : ℕ) → j ≡ i + length bs → IsToken t bs behind → tokens_from i [] (bs ++ behind) ≡ record { place = i; token = t } ∷ tokens_from j [] behind
token_from (name []) bs behind i j e h = absurd (true≢false (sym h.1.0))
token_from (name (c ∷ w)) bs behind i j e h =
    let p = and_parts (begins_name c) (list_all continues_name w) h.1.0 in
    let l : length bs ≡ suc (length w) = ap length h.0 in
    rw (h.0, p.0) (word_from w behind c [] (suc i) j i (omega (arith, e, l)) (omega (arith, e, l)) p.1 h.1.1)
token_from open_brace bs behind i j e h = let k : j ≡ suc i = omega (arith, e, ap length h) in rw (h, k) refl
token_from close_brace bs behind i j e h = let k : j ≡ suc i = omega (arith, e, ap length h) in rw (h, k) refl
token_from semicolon bs behind i j e h = let k : j ≡ suc i = omega (arith, e, ap length h) in rw (h, k) refl
token_from bad bs behind i j e h =
    let k : j ≡ suc i = omega (arith, e, ap length h.1) in
    let x : ℕ = h.0 in
    let a : ((is_blank x || begins_name x || (x == 123) || (x == 125)) ≡ false) × ((x == 59) ≡ false) = or_parts _ _ h.2 in
    let b : ((is_blank x || begins_name x || (x == 123)) ≡ false) × ((x == 125) ≡ false) = or_parts _ _ a.0 in
    let c : ((is_blank x || begins_name x) ≡ false) × ((x == 123) ≡ false) = or_parts _ _ b.0 in
    let d : (is_blank x ≡ false) × (begins_name x ≡ false) = or_parts _ _ c.0 in
    rw (h.1, k, d.1, d.0, c.1, b.1, a.1) refl

all_tokens : (ts : List Placed) (i : ℕ) (text : List ℕ) → AreTokens i text ts → tokens_from i [] text ≡ ts
all_tokens [] i text h = ap (tokens_from i []) (sym (append-nil text)) ∙ skip_blanks text [] i (i + length text) refl h
all_tokens (t ∷ ts) i text h =
    ap (tokens_from i []) h.3 ∙ skip_blanks h.0 (h.1 ++ h.2) i t.place h.5 h.4 ∙ token_from t.token h.1 h.2 t.place (t.place + length h.1) refl h.6 ∙ ap (λ x. t ∷ x) (all_tokens ts (t.place + length h.1) h.2 h.7)

pub one_list_of_tokens : OneListOfTokens
one_list_of_tokens text ts h = all_tokens ts 0 text h
