-- Scanning a text byte by byte: the word that has begun, and what is left.
use Rattle.std.specs.Prelude.{◌≡◌, ℕ, ◌+◌, ◌-◌, ◌<◌, ◌≤◌, List, [], ◌∷◌, ◌++◌, length, take, drop, get_or, true, false, Result}
use Rattle.std.specs.List.{list_all}
use Rattle.std.proofs.Common.{arith, refl, sym, ap, ◌∙◌, add-one}
use Rattle.std.proofs.lemmas.Bool.{and_parts, and_from}
use Rattle.std.proofs.lemmas.List.{take_more, drop_more, drop_all, get_or-drop, length-drop}
use Rattle.dr_meaning.specs.Schema.{Schema, continues_name}
use Rattle.dr_meaning.specs.SchemaText.{Reading, Placed, SchemaFault, goes_on, with_word, with_byte, tokens_from, read_tokens}

abbrev pub word : List ℕ → ℕ → ℕ → List ℕ
word text s i = take (i - s) (drop s text)

pub word_grows : (text : List ℕ) (s i : ℕ) → s ≤ i → i < length text → word text s (i + 1) ≡ word text s i ++ get_or text i 0 ∷ []
word_grows text s i h l =
    let e : i + 1 - s ≡ (i - s) + 1 = omega arith in
    let k : s + (i - s) ≡ i = omega arith in
    let g : get_or (drop s text) (i - s) 0 ≡ get_or text i 0 = get_or-drop s text (i - s) 0 ∙ ap (λ (j : ℕ). get_or text j 0) k in
    let m : i - s < length (drop s text) = omega (arith, length-drop s text) in
    ap (λ (j : ℕ). take j (drop s text)) e ∙ take_more (drop s text) (i - s) 0 m ∙ ap (λ (b : ℕ). word text s i ++ b ∷ []) g

pub word_restarts : (text : List ℕ) (s i : ℕ) → s ≡ i → word text s i ≡ []
word_restarts text s i e = let z : i - s ≡ 0 = omega arith in ap (λ (j : ℕ). take j (drop s text)) z

pub tokens_grow : (i : ℕ) (w : List ℕ) (b : ℕ) (bs : List ℕ) → goes_on w b ≡ true → tokens_from i w (b ∷ bs) ≡ tokens_from (i + 1) (w ++ b ∷ []) bs
tokens_grow i w b bs h = rw (add-one i, h) refl

pub tokens_end : (i : ℕ) (w : List ℕ) (b : ℕ) (bs : List ℕ) → goes_on w b ≡ false → tokens_from i w (b ∷ bs) ≡ with_word i w (with_byte i b (tokens_from (i + 1) [] bs))
tokens_end i w b bs h = rw (add-one i, h) refl

continues : (w : List ℕ) (b : ℕ) → goes_on w b ≡ true → continues_name b ≡ true
continues [] b h = rw h refl
continues (c ∷ w) b h = h

all_more : (w : List ℕ) (b : ℕ) → list_all continues_name w ≡ true → continues_name b ≡ true → list_all continues_name (w ++ b ∷ []) ≡ true
all_more [] b h k = and_from (continues_name b) true k refl
all_more (c ∷ w) b h k =
    let p = and_parts (continues_name c) (list_all continues_name w) h in
    and_from (continues_name c) (list_all continues_name (w ++ b ∷ [])) p.0 (all_more w b p.1 k)

-- the byte goes on with the word
pub name_grows : (text : List ℕ) (s i : ℕ) → s ≤ i → i < length text → list_all continues_name (word text s i) ≡ true → goes_on (word text s i) (get_or text i 0) ≡ true
    → list_all continues_name (word text s (i + 1)) ≡ true
name_grows text s i h l a g = rw (word_grows text s i h l) (all_more (word text s i) (get_or text i 0) a (continues (word text s i) (get_or text i 0) g))

pub rest_grows : (text : List ℕ) (s i : ℕ) (m : Reading) (r : Result Schema SchemaFault) → s ≤ i → i < length text → goes_on (word text s i) (get_or text i 0) ≡ true
    → read_tokens (length text) (tokens_from i (word text s i) (drop i text)) m ≡ r
    → read_tokens (length text) (tokens_from (i + 1) (word text s (i + 1)) (drop (i + 1) text)) m ≡ r
rest_grows text s i m r h l g e =
    let t : tokens_from i (word text s i) (drop i text) ≡ tokens_from (i + 1) (word text s (i + 1)) (drop (i + 1) text) =
    ap (tokens_from i (word text s i)) (drop_more text i 0 l) ∙ tokens_grow i (word text s i) (get_or text i 0) (drop (i + 1) text) g
    ∙ ap (λ (w : List ℕ). tokens_from (i + 1) w (drop (i + 1) text)) (sym (word_grows text s i h l)) in
    ap (λ (ts : List Placed). read_tokens (length text) ts m) (sym t) ∙ e

-- the byte ends the word, and both have been read
pub rest_restarts : (text : List ℕ) (s i k : ℕ) (m n : Reading) (r : Result Schema SchemaFault) → i < length text → k ≡ i + 1 → goes_on (word text s i) (get_or text i 0) ≡ false
    → ((size : ℕ) (ts : List Placed) → read_tokens size (with_word i (word text s i) (with_byte i (get_or text i 0) ts)) m ≡ read_tokens size ts n)
    → read_tokens (length text) (tokens_from i (word text s i) (drop i text)) m ≡ r
    → read_tokens (length text) (tokens_from (i + 1) (word text k (i + 1)) (drop (i + 1) text)) n ≡ r
rest_restarts text s i k m n r l e g p q =
    let t : tokens_from i (word text s i) (drop i text) ≡ with_word i (word text s i) (with_byte i (get_or text i 0) (tokens_from (i + 1) [] (drop (i + 1) text))) =
    ap (tokens_from i (word text s i)) (drop_more text i 0 l) ∙ tokens_end i (word text s i) (get_or text i 0) (drop (i + 1) text) g in
    ap (λ (w : List ℕ). read_tokens (length text) (tokens_from (i + 1) w (drop (i + 1) text)) n) (word_restarts text k (i + 1) e)
    ∙ sym (p (length text) (tokens_from (i + 1) [] (drop (i + 1) text)))
    ∙ ap (λ (ts : List Placed). read_tokens (length text) ts m) (sym t) ∙ q

-- the text's end ends the word
pub rest_ends : (text : List ℕ) (s i : ℕ) (m n : Reading) (r : Result Schema SchemaFault) → i ≡ length text
    → ((size : ℕ) (ts : List Placed) → read_tokens size (with_word (length text) (word text s (length text)) ts) m ≡ read_tokens size ts n)
    → read_tokens (length text) (tokens_from i (word text s i) (drop i text)) m ≡ r
    → r ≡ read_tokens (length text) [] n
rest_ends text s i m n r e p q =
    let d : drop i text ≡ [] = drop_all i text (omega arith) in
    let t : tokens_from i (word text s i) (drop i text) ≡ with_word (length text) (word text s (length text)) [] =
    ap (tokens_from i (word text s i)) d ∙ ap (λ (j : ℕ). with_word j (word text s j) []) e in
    sym q ∙ ap (λ (ts : List Placed). read_tokens (length text) ts m) t ∙ p (length text) []
