-- Texts one behind another, and the tokens that they are read as.
use Rattle.std.proofs.Common.{◌≡◌, ℕ, suc, ◌+◌, ◌*◌, ◌-◌, ◌%◌, ◌<◌, ◌≤◌, List, [], ◌∷◌, ◌++◌, length, true, false, refl, sym, ◌∙◌, subst, arith, append_assoc, append-nil, length-append}
use Rattle.std.specs.Prelude.{nat_le}
use Rattle.std.specs.List.{list_all}
use Rattle.std.specs.Fmt.{decimal}
use Rattle.std.proofs.lemmas.Bool.{and_from, le-leb}
use Rattle.std.proofs.lemmas.Fmt.{decimal_by_steps}
use Rattle.dr_meaning.specs.Schema.{is_name, continues_name}
use Rattle.dr_meaning.specs.Tokens.{Word, QueryToken, reserved, number, PlacedToken, placed, name_token, greatest_number, is_digit, query_tokens}
use Rattle.dr_meaning.specs.TokenLaws.{begins_so, digits_value, IsQueryToken, AreQueryTokens}
use Rattle.dr_meaning.proofs.TokenLemmas.{all_push}
use Rattle.dr_meaning.proofs.QueryTokenLemmas.{blank_before, token_before}
use Rattle.dr_meaning.proofs.OneQueryTokenLemmas.{one_list_of_query_tokens}

-- a text at place i, in front of a rest at place j, has these tokens in front of the rest's
abbrev pub Lexes : ℕ → ℕ → List ℕ → List ℕ → List PlacedToken → Type 0
Lexes i j text rest ts = (us : List PlacedToken) → AreQueryTokens j rest us → AreQueryTokens i (text ++ rest) (ts ++ us)

-- at whatever place, a text in front of a rest has tokens of this kind
abbrev pub Reads : (List PlacedToken → Type 0) → List ℕ → List ℕ → Type 0
Reads Q text rest = (i : ℕ) → (j : ℕ) × (ts : List PlacedToken) × Lexes i j text rest ts × Q ts

-- tokens of one kind, and then of another
pub data Both (Q R : List PlacedToken → Type 0) : List PlacedToken → Type 0 where
  both : (ts us : List PlacedToken) → Q ts → R us → Both Q R (ts ++ us)

-- one token
pub data One (t : QueryToken) : List PlacedToken → Type 0 where
  one : (i : ℕ) → One t (placed i t ∷ [])

pub read_both : (Q R : List PlacedToken → Type 0) (text more rest : List ℕ) → Reads Q text (more ++ rest) → Reads R more rest → Reads (Both Q R) (text ++ more) rest
read_both Q R text more rest f g i =
    let a = f i in
    let b = g a.0 in (
      b.0,
      a.1 ++ b.1,
      (λ us h. subst (λ x. AreQueryTokens i x ((a.1 ++ b.1) ++ us)) (sym (append_assoc text more rest))
          (subst (λ x. AreQueryTokens i (text ++ (more ++ rest)) x) (sym (append_assoc a.1 b.1 us)) (a.2 (b.1 ++ us) (b.2 us h)))),
      both a.1 b.1 a.3 b.3,
    )

pub read_as : (Q R : List PlacedToken → Type 0) (text rest : List ℕ) → ((ts : List PlacedToken) → Q ts → R ts) → Reads Q text rest → Reads R text rest
read_as Q R text rest f g i = let a = g i in (a.0, a.1, a.2, f a.1 a.3)

-- a whole text has the tokens
pub read_whole : (Q : List PlacedToken → Type 0) (text : List ℕ) → Reads Q text [] → Q (query_tokens text)
read_whole Q text f =
    let a = f 0 in
    let h : AreQueryTokens 0 (text ++ []) (a.1 ++ []) = a.2 [] refl in
    let k : AreQueryTokens 0 text a.1 = subst (λ x. AreQueryTokens 0 x a.1) (append-nil text) (subst (λ x. AreQueryTokens 0 (text ++ []) x) (append-nil a.1) h) in
    subst Q (sym (one_list_of_query_tokens text a.1 k)) a.3

pub read_token : (t : QueryToken) (bs rest : List ℕ) → IsQueryToken t bs rest → Reads (One t) bs rest
read_token t bs rest h i = (i + length bs, placed i t ∷ [], (λ us a. token_before i t bs rest us h a), one i)

-- ---- blanks round a text

pub read_after_blank : (Q : List PlacedToken → Type 0) (text rest : List ℕ) → Reads Q text rest → Reads Q (32 ∷ text) rest
read_after_blank Q text rest f i = let a = f (suc i) in (a.0, a.1, (λ us h. blank_before i 32 (text ++ rest) (a.1 ++ us) refl (a.2 us h)), a.3)

pub read_before_blank : (Q : List PlacedToken → Type 0) (text rest : List ℕ) → Reads Q text (32 ∷ rest) → Reads Q (text ++ 32 ∷ []) rest
read_before_blank Q text rest f i =
    let a = f i in
    (suc a.0, a.1, (λ us h. subst (λ x. AreQueryTokens i x (a.1 ++ us)) (sym (append_assoc text (32 ∷ []) rest)) (a.2 us (blank_before a.0 32 rest us refl h))), a.3)

-- ---- words

pub read_word : (w : Word) (bs rest : List ℕ) → is_name bs ≡ true → name_token bs ≡ reserved w → begins_so continues_name rest ≡ false → Reads (One (reserved w)) bs rest
read_word w bs rest n e h = read_token (reserved w) bs rest ((n, h), e)

pub read_word_before_blank : (w : Word) (bs rest : List ℕ) → is_name bs ≡ true → name_token bs ≡ reserved w → Reads (One (reserved w)) (bs ++ 32 ∷ []) rest
read_word_before_blank w bs rest n e = read_before_blank (One (reserved w)) bs rest (read_word w bs (32 ∷ rest) n e refl)

pub read_word_between : (w : Word) (bs rest : List ℕ) → is_name bs ≡ true → name_token bs ≡ reserved w → Reads (One (reserved w)) (32 ∷ (bs ++ 32 ∷ [])) rest
read_word_between w bs rest n e = read_after_blank (One (reserved w)) (bs ++ 32 ∷ []) rest (read_word_before_blank w bs rest n e)

-- ---- numbers

digits_push : (m : ℕ) (w : List ℕ) (b : ℕ) → digits_value m (w ++ b ∷ []) ≡ digits_value m w * 10 + (b - 48)
digits_push m [] b = refl
digits_push m (c ∷ w) b = digits_push (m * 10 + (c - 48)) w b

-- the digits of a number, without what is behind them
abbrev Digits : ℕ → List ℕ → Type 0
Digits n ds = (0 < length ds) × (list_all is_digit ds ≡ true) × (digits_value 0 ds ≡ n)

a_digit : (d : ℕ) → d < 10 → is_digit (48 + d) ≡ true
a_digit d h = and_from (nat_le 48 (48 + d)) (nat_le (48 + d) 57) (le-leb 48 (48 + d) (omega arith)) (le-leb (48 + d) 57 (omega arith))

decimal_is_digits : (n : ℕ) → n ≤ greatest_number → Digits n (decimal n)
decimal_is_digits n small = decimal_by_steps Digits
    (λ m l. (omega arith, and_from (is_digit (48 + m)) true (a_digit m l) refl, omega arith))
    (λ m ds l h. (
      omega (arith, length-append ds ((48 + m % 10) ∷ [])),
      all_push is_digit ds (48 + m % 10) h.1 (a_digit (m % 10) (omega arith)),
      digits_push 0 ds (48 + m % 10) ∙ omega (arith, h.2),
    ))
    n (omega arith)

pub read_number : (n : ℕ) (rest : List ℕ) → n ≤ greatest_number → begins_so is_digit rest ≡ false → Reads (One (number n)) (decimal n) rest
read_number n rest small h = let d = decimal_is_digits n small in read_token (number n) (decimal n) rest ((d.0, d.1, d.2, h), small)
