-- Levels side by side.
use Rattle.std.proofs.Common.{◌≡◌, ℕ, ◌+◌, ◌<◌, List, [], ◌∷◌, ◌++◌, length, map, take, drop, set, get_or, refl, sym, ap, ap₂, ◌∙◌, arith, zero, suc, ◌≤◌, Bool, true, false}
use mir.Val.{bool_byte}
use Rattle.std.specs.Prelude.{◌==◌, if◌then◌else◌}
use Rattle.std.proofs.lemmas.List.{map_push, take_more_set, take_more, take_all}
use Rattle.dr_formats.specs.Page.{count_equal}
use Rattle.dr_levels.specs.declared.triplet.Levels.{Levels}
use Rattle.dr_page.specs.Parts.{PairsOf}

-- a field of each pair is filled in from a list
filled : (f : Levels → ℕ) (out : List Levels) (xs : List ℕ) (i : ℕ) (l : Levels) → i < length out → i < length xs → f l ≡ get_or xs i 0 → map f (take i out) ≡ take i xs → map f (take (i + 1) (set out i l)) ≡ take (i + 1) xs
filled f out xs i l h k e s =
    ap (map f) (take_more_set out i l h) ∙ (map_push f (take i out) l ∙ (ap₂ (λ ys y. ys ++ y ∷ []) s e ∙ sym (take_more xs i 0 k)))

pub fill_more : (rs ds : List ℕ) (out : List Levels) (i : ℕ) (l : Levels) → i < length out → i < length rs → i < length ds → l.repetition ≡ get_or rs i 0 → l.definition ≡ get_or ds i 0 → PairsOf (take i rs) (take i ds) (take i out)
    → PairsOf (take (i + 1) rs) (take (i + 1) ds) (take (i + 1) (set out i l))
fill_more rs ds out i l h k m e f p = (filled (λ (x : Levels). x.repetition) out rs i l h k e p.0, filled (λ (x : Levels). x.definition) out ds i l h m f p.1)

-- one more is counted
pub count_more : (g : ℕ) (ls : List ℕ) (i : ℕ) → i < length ls → count_equal g (take (i + 1) ls) ≡ count_equal g (take i ls) + (if get_or ls i 0 == g then 1 else 0)
count_more g [] i h = absurd (omega (arith, h))
count_more g (l ∷ ls) zero h = first (l == g)
  where
    first : (b : Bool) → (if b then 1 else 0) ≡ 0 + (if b then 1 else 0)
    first true = omega arith
    first false = omega arith
count_more g (l ∷ ls) (suc i) h =
    let e : suc i + 1 ≡ suc (i + 1) = omega arith in
    let one : ℕ = if get_or ls i 0 == g then 1 else 0 in
    ap (λ (k : ℕ). count_equal g (take k (l ∷ ls))) e ∙ (ap (λ (n : ℕ). if l == g then suc n else n) (count_more g ls i (omega (arith, h))) ∙ grown (l == g) (count_equal g (take i ls)) one)
  where
    grown : (b : Bool) (m n : ℕ) → (if b then suc (m + n) else m + n) ≡ (if b then suc m else m) + n
    grown true m n = omega arith
    grown false m n = refl

pub all_counted : (g : ℕ) (ls : List ℕ) (i : ℕ) → length ls ≤ i → count_equal g (take i ls) ≡ count_equal g ls
all_counted g ls i h = ap (count_equal g) (take_all i ls h)

-- the first so many are counted, and the others
pub count_parts : (g n : ℕ) (ls : List ℕ) → count_equal g (take n ls) + count_equal g (drop n ls) ≡ count_equal g ls
count_parts g zero ls = omega arith
count_parts g (suc n) [] = omega arith
count_parts g (suc n) (l ∷ ls) = grown (l == g) (count_equal g (take n ls)) (count_equal g (drop n ls)) (count_equal g ls) (count_parts g n ls)
  where
    grown : (x : Bool) (a b c : ℕ) → a + b ≡ c → (if x then suc a else a) + b ≡ (if x then suc c else c)
    grown true a b c e = omega (arith, e)
    grown false a b c e = e

pub one_if : (b : Bool) → bool_byte b ≡ (if b then 1 else 0)
one_if true = refl
one_if false = refl

pub at_most_one : (b : Bool) → (if b then 1 else 0) ≤ 1
at_most_one true = omega arith
at_most_one false = omega arith
