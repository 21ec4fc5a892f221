-- The canonical text of tokens is taken apart into the same tokens.
use Rattle.std.proofs.Common.{◌≡◌, ℕ, suc, List, [], ◌∷◌, ◌++◌, true, refl, ap, ◌∙◌, append_assoc, append-nil}
use Rattle.std.specs.List.{list_all}
use Rattle.std.proofs.lemmas.Bool.{and_parts}
use Rattle.dr_meaning.specs.Schema.{begins_name, continues_name, is_name}
use Rattle.dr_meaning.specs.SchemaText.{Token, name, open_brace, close_brace, semicolon, bad, Placed, bare, tokens_of, tokens_from, with_word, separated, text_of_tokens}

-- the tokens whose text reads back
abbrev pub IsPrinted : List Token → Type 0
IsPrinted [] = Unit {0}
IsPrinted (name n ∷ ts) = (is_name n ≡ true) × IsPrinted ts
IsPrinted (open_brace ∷ ts) = IsPrinted ts
IsPrinted (close_brace ∷ ts) = IsPrinted ts
IsPrinted (semicolon ∷ ts) = IsPrinted ts
IsPrinted (bad ∷ ts) = ⊥

-- the token of a word that has begun
abbrev pub word_tokens : List ℕ → List Token
word_tokens [] = []
word_tokens (c ∷ w) = name (c ∷ w) ∷ []

bare_word : (i : ℕ) (w : List ℕ) (ts : List Placed) → bare (with_word i w ts) ≡ word_tokens w ++ bare ts
bare_word i [] ts = refl
bare_word i (c ∷ w) ts = refl

-- a byte that goes on with no name
blank : (w : List ℕ) (i : ℕ) (bs : List ℕ) → bare (tokens_from i w (32 ∷ bs)) ≡ word_tokens w ++ bare (tokens_from (suc i) [] bs)
blank [] i bs = refl
blank (c ∷ w) i bs = refl

line_end : (w : List ℕ) (i : ℕ) → bare (tokens_from i w (10 ∷ [])) ≡ word_tokens w ++ []
line_end [] i = refl
line_end (c ∷ w) i = refl

semicolon_byte : (w : List ℕ) (i : ℕ) (bs : List ℕ) → bare (tokens_from i w (59 ∷ bs)) ≡ word_tokens w ++ (semicolon ∷ bare (tokens_from (suc i) [] bs))
semicolon_byte [] i bs = refl
semicolon_byte (c ∷ w) i bs = refl

-- the rest gives these tokens, whatever word has begun
abbrev pub Reads : List ℕ → List Token → Type 0
Reads bs ts = (w : List ℕ) (i : ℕ) → bare (tokens_from i w bs) ≡ word_tokens w ++ ts

-- the rest of a name
word_rest : (bs : List ℕ) (rest : List ℕ) (ts : List Token) → Reads rest ts → list_all continues_name bs ≡ true → (c : ℕ) (w : List ℕ) (i : ℕ) → bare (tokens_from i (c ∷ w) (bs ++ rest)) ≡ name (c ∷ (w ++ bs)) ∷ ts
word_rest [] rest ts k h c w i = rw append-nil (k (c ∷ w) i)
word_rest (b ∷ bs) rest ts k h c w i =
    let p = and_parts (continues_name b) (list_all continues_name bs) h in
    rw p.0 (word_rest bs rest ts k p.1 c (w ++ b ∷ []) (suc i) ∙ ap (λ (x : List ℕ). name (c ∷ x) ∷ ts) (append_assoc w (b ∷ []) bs))

whole_word : (n : List ℕ) (rest : List ℕ) (ts : List Token) → Reads rest ts → is_name n ≡ true → (i : ℕ) → bare (tokens_from i [] (n ++ rest)) ≡ name n ∷ ts
whole_word [] rest ts k h i = absurd (cc)
whole_word (b ∷ bs) rest ts k h i =
    let p = and_parts (begins_name b) (list_all continues_name bs) h in
    rw p.0 (word_rest bs rest ts k p.1 b [] (suc i))

pub reads_separated : (ts : List Token) → IsPrinted ts → Reads (separated ts) ts
reads_separated [] h w i = line_end w i
reads_separated (name n ∷ ts) h w i = blank w i (n ++ separated ts) ∙ ap (λ (x : List Token). word_tokens w ++ x) (whole_word n (separated ts) ts (reads_separated ts h.1) h.0 (suc i))
reads_separated (open_brace ∷ ts) h w i = blank w i (123 ∷ separated ts) ∙ ap (λ (x : List Token). word_tokens w ++ (open_brace ∷ x)) (reads_separated ts h [] (suc (suc i)))
reads_separated (close_brace ∷ ts) h w i = blank w i (125 ∷ separated ts) ∙ ap (λ (x : List Token). word_tokens w ++ (close_brace ∷ x)) (reads_separated ts h [] (suc (suc i)))
reads_separated (semicolon ∷ ts) h w i = semicolon_byte w i (separated ts) ∙ ap (λ (x : List Token). word_tokens w ++ (semicolon ∷ x)) (reads_separated ts h [] (suc i))
reads_separated (bad ∷ ts) h w i = absurd h

-- the canonical text of tokens, the first of which is a name
pub reads_text : (n : List ℕ) (ts : List Token) → is_name n ≡ true → IsPrinted ts → bare (tokens_of (text_of_tokens (name n ∷ ts))) ≡ name n ∷ ts
reads_text n ts h k = whole_word n (separated ts) ts (reads_separated ts k) h 0
