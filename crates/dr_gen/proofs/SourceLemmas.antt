-- What a source of made lines gives and has left.
use Rattle.std.specs.Prelude.{◌≡◌, ◌<◌, ◌≤◌, ℕ, zero, suc, ◌+◌, ◌-◌, List, [], ◌∷◌, ◌++◌, length, take, drop}
use Rattle.std.proofs.Common.{sym, ap, ap₂, ◌∙◌, arith, append_assoc}
use Rattle.std.proofs.lemmas.List.{drop-drop, take-append-drop, take-append-le}
use Rattle.dr_meaning.specs.Print.{record_text}
use Rattle.dr_gen.specs.Generator.{line_of, lines_from}

some_suc : (n : ℕ) → 0 < suc n
some_suc n = omega arith

pub line_is_some : (x : ℕ) → 0 < length (line_of x)
unfolding line_of record_text
line_is_some x = some_suc _

pub first_line : (x n m : ℕ) → 0 < n → m ≡ n - 1 → line_of x ++ lines_from (x + 1) m ≡ lines_from x n
first_line x zero m h e = absurd (omega (arith, h))
first_line x (suc n) m h e =
    let f : m ≡ n = omega (arith, e) in
    let g : x + 1 ≡ suc x = omega arith in
    ap₂ (λ i k. line_of x ++ lines_from i k) g f

pub no_lines_left : (x n : ℕ) → n ≡ 0 → lines_from x n ≡ []
no_lines_left x n e = ap (lines_from x) e

-- what is given of the line, and what is left of it, is what was left of it
pub given_piece : (line rest room : List ℕ) (from count : ℕ) → take count room ≡ take count (drop from line)
    → take count room ++ (drop (from + count) line ++ rest) ≡ drop from line ++ rest
given_piece line rest room from count e =
    ap₂ (λ (x y : List ℕ). x ++ (y ++ rest)) e (sym (drop-drop count from line))
    ∙ sym (append_assoc (take count (drop from line)) (drop count (drop from line)) rest)
    ∙ ap (λ (x : List ℕ). x ++ rest) (take-append-drop count (drop from line))

-- the front of a buffer of which a part was written
pub part_taken : (xs ys post : List ℕ) (f n : ℕ) → f ≤ length xs → n ≤ length ys → take (f + n) (take f xs ++ (ys ++ post)) ≡ take f xs ++ take n ys
part_taken xs ys post zero n h i =
    let e : 0 + n ≡ n = omega arith in
    ap (λ m. take m (ys ++ post)) e ∙ take-append-le n ys post i
part_taken [] ys post (suc f) n h i = absurd (omega (arith, h))
part_taken (x ∷ xs) ys post (suc f) n h i =
    let e : suc f + n ≡ suc (f + n) = omega arith in
    ap (λ m. take m (x ∷ (take f xs ++ (ys ++ post)))) e ∙ ap (λ (zs : List ℕ). x ∷ zs) (part_taken xs ys post f n (omega (arith, h)) i)
