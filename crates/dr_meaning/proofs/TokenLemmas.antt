-- The tokens of a schema text and the blanks between them are the text.
use Rattle.std.proofs.Common.{◌≡◌, ℕ, suc, ◌+◌, ◌-◌, List, [], ◌∷◌, ◌++◌, length, Bool, true, false, ◌||◌, refl, sym, ap, subst, arith, append_assoc, length-append}
use Rattle.std.specs.Prelude.{◌==◌}
use Rattle.std.specs.List.{list_all}
use Rattle.std.proofs.lemmas.Bool.{and_parts, and_from, or_parts, or_from, eqb-true, cond_both}
use Rattle.dr_meaning.specs.Schema.{is_name, begins_name, continues_name}
use Rattle.dr_meaning.specs.SchemaText.{Token, name, open_brace, close_brace, semicolon, bad, Placed, tokens_from, with_word, with_byte, byte_token, is_blank, goes_on}
use Rattle.dr_meaning.specs.TokenLaws.{begins_so, IsStrayByte, IsToken, AreTokens, TokensAreText}

-- a blank before tokens
blank_before : (i b : ℕ) (text : List ℕ) (ts : List Placed) → is_blank b ≡ true → AreTokens (suc i) text ts → AreTokens i (b ∷ text) ts
blank_before i b text [] h a = and_from (is_blank b) (list_all is_blank text) h a
blank_before i b text (t ∷ ts) h a = (
  b ∷ a.0,
  a.1,
  a.2,
  ap (λ x. b ∷ x) a.3,
  and_from (is_blank b) (list_all is_blank a.0) h a.4,
  omega (arith, a.5),
  a.6,
  a.7,
)

-- a token before tokens
token_before : (i : ℕ) (t : Token) (bs behind : List ℕ) (ts : List Placed) → IsToken t bs behind → AreTokens (i + length bs) behind ts → AreTokens i (bs ++ behind) (record { place = i; token = t } ∷ ts)
token_before i t bs behind ts h a = ([], bs, behind, refl, refl, omega arith, h, a)

-- which token a byte is
abbrev ByteIs : ℕ → List ℕ → Token → Type 0
ByteIs b behind t = IsToken t (b ∷ []) behind

stray_from : (b : ℕ) → is_blank b ≡ false → begins_name b ≡ false → (b == 123) ≡ false → (b == 125) ≡ false → (b == 59) ≡ false → IsStrayByte b
stray_from b h g p q r = or_from (is_blank b || begins_name b || (b == 123) || (b == 125)) (b == 59) (or_from (is_blank b || begins_name b || (b == 123)) (b == 125) (or_from (is_blank b || begins_name b) (b == 123) (or_from (is_blank b) (begins_name b) h g) p) q) r

byte_is : (b : ℕ) (behind : List ℕ) → is_blank b ≡ false → begins_name b ≡ false → ByteIs b behind (byte_token b)
byte_is b behind h g =
    cond_both (b == 123) open_brace _ (ByteIs b behind) (λ e. ap (λ x. x ∷ []) (eqb-true b 123 e)) (λ p.
    cond_both (b == 125) close_brace _ (ByteIs b behind) (λ e. ap (λ x. x ∷ []) (eqb-true b 125 e)) (λ q.
    cond_both (b == 59) semicolon bad (ByteIs b behind) (λ e. ap (λ x. x ∷ []) (eqb-true b 59 e)) (λ r.
    (b, refl, stray_from b h g p q r))))

-- a byte that begins no name, before tokens
byte_before : (i b : ℕ) (text : List ℕ) (ts : List Placed) → begins_name b ≡ false → AreTokens (suc i) text ts → AreTokens i (b ∷ text) (with_byte i b ts)
byte_before i b text ts g a = cond_both (is_blank b) ts (record { place = i; token = byte_token b } ∷ ts) (λ x. AreTokens i (b ∷ text) x)
    (λ e. blank_before i b text ts e a)
    (λ e. token_before i (byte_token b) (b ∷ []) text ts (byte_is b text e g) (subst (λ j. AreTokens j text ts) (omega arith) a))

-- a word that has begun, if one has, is a name
abbrev pub IsBegun : List ℕ → Type 0
IsBegun [] = Unit {0}
IsBegun (c ∷ w) = is_name (c ∷ w) ≡ true

pub all_push : (p : ℕ → Bool) (w : List ℕ) (b : ℕ) → list_all p w ≡ true → p b ≡ true → list_all p (w ++ b ∷ []) ≡ true
all_push p [] b h k = rw k refl
all_push p (c ∷ w) b h k =
    let q = and_parts (p c) (list_all p w) h in
    and_from (p c) (list_all p (w ++ b ∷ [])) q.0 (all_push p w b q.1 k)

pub begun_more : (w : List ℕ) (b : ℕ) → IsBegun w → goes_on w b ≡ true → IsBegun (w ++ b ∷ [])
begun_more [] b h k = rw k refl
begun_more (c ∷ w) b h k =
    let p = and_parts (begins_name c) (list_all continues_name w) h in
    and_from (begins_name c) (list_all continues_name (w ++ b ∷ [])) p.0 (all_push continues_name w b p.1 k)

-- the word ends before these bytes
word_before : (i j : ℕ) (w text : List ℕ) (ts : List Placed) → i ≡ j + length w → IsBegun w → begins_so (goes_on w) text ≡ false → AreTokens i text ts → AreTokens j (w ++ text) (with_word i w ts)
word_before i j [] text ts e h g a = subst (λ k. AreTokens k text ts) (omega arith) a
word_before i j (c ∷ w) text ts e h g a =
    let q : i - length (c ∷ w) ≡ j = omega arith in
    subst (λ k. AreTokens j ((c ∷ w) ++ text) (record { place = k; token = name (c ∷ w) } ∷ ts)) (sym q)
    (token_before j (name (c ∷ w)) (c ∷ w) text ts (refl, (h, ends text g)) (subst (λ k. AreTokens k text ts) e a))
  where
    ends : (text : List ℕ) → begins_so (goes_on (c ∷ w)) text ≡ false → begins_so continues_name text ≡ false
    ends [] g = refl
    ends (b ∷ bs) g = g

-- what goes on with no word begins no name
pub no_name : (w : List ℕ) (b : ℕ) → goes_on w b ≡ false → begins_name b ≡ false
no_name [] b h = h
no_name (c ∷ w) b h = (or_parts (begins_name b) _ h).0

from_word : (text : List ℕ) (i j : ℕ) (w : List ℕ) → i ≡ j + length w → IsBegun w → AreTokens j (w ++ text) (tokens_from i w text)
from_word [] i j w e h = word_before i j w [] [] e h refl refl
from_word (b ∷ bs) i j w e h = cond_both (goes_on w b) (tokens_from (suc i) (w ++ b ∷ []) bs) (with_word i w (with_byte i b (tokens_from (suc i) [] bs))) (λ x. AreTokens j (w ++ b ∷ bs) x)
    (λ g. subst (λ x. AreTokens j x (tokens_from (suc i) (w ++ b ∷ []) bs)) (append_assoc w (b ∷ []) bs) (from_word bs (suc i) j (w ++ b ∷ []) (omega (arith, length-append w (b ∷ []))) (begun_more w b h g)))
    (λ g. word_before i j w (b ∷ bs) (with_byte i b (tokens_from (suc i) [] bs)) e h g (byte_before i b bs (tokens_from (suc i) [] bs) (no_name w b g) (from_word bs (suc i) (suc i) [] (omega arith) tt)))

pub tokens_are_text : TokensAreText
tokens_are_text text = from_word text 0 0 [] refl tt
