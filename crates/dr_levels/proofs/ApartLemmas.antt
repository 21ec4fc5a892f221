-- Levels, those of each kind by themselves, and numbers that hold both.
use Rattle.std.proofs.Common.{◌≡◌, ℕ, zero, suc, ◌+◌, ◌<◌, ◌≤◌, ◌%◌, ◌/◌, List, [], ◌∷◌, map, length, take, get_or, Bool, true, false, refl, sym, ap, ◌∙◌, arith}
use Rattle.std.specs.Prelude.{◌==◌, if◌then◌else◌}
use mir.Val.{bool_byte}
use Rattle.std.proofs.lemmas.List.{length-map}
use Rattle.dr_levels.specs.declared.triplet.Levels.{Levels}
use Rattle.dr_levels.specs.Apart.{definitions, repetitions}
use Rattle.dr_levels.specs.Dense.{present}
use Rattle.dr_levels.proofs.DenseLemmas.{counted_more, value_byte}

pub repetition_at : (ls : List Levels) (i : ℕ) (d : Levels) → d.repetition ≡ 0 → (get_or ls i d).repetition ≡ get_or (repetitions ls) i 0
repetition_at [] i d e = e
repetition_at (l ∷ ls) zero d e = refl
repetition_at (l ∷ ls) (suc i) d e = repetition_at ls i d e

pub definition_at : (ls : List Levels) (i : ℕ) (d : Levels) → d.definition ≡ 0 → (get_or ls i d).definition ≡ get_or (definitions ls) i 0
definition_at [] i d e = e
definition_at (l ∷ ls) zero d e = refl
definition_at (l ∷ ls) (suc i) d e = definition_at ls i d e

-- there are as many of a kind as there are levels
pub as_many : (ls : List Levels) (rs : List ℕ) → repetitions ls ≡ rs → length ls ≡ length rs
as_many ls rs r = sym (length-map ls (λ (l : Levels). l.repetition)) ∙ ap length r

pub remainder_at : (ns : List ℕ) (i : ℕ) → get_or (map (λ n. n % 256) ns) i 0 ≡ get_or ns i 0 % 256
remainder_at [] zero = refl
remainder_at [] (suc i) = refl
remainder_at (n ∷ ns) zero = refl
remainder_at (n ∷ ns) (suc i) = remainder_at ns i

pub quotient_at : (ns : List ℕ) (i : ℕ) → get_or (map (λ n. n / 256) ns) i 0 ≡ get_or ns i 0 / 256
quotient_at [] zero = refl
quotient_at [] (suc i) = refl
quotient_at (n ∷ ns) zero = refl
quotient_at (n ∷ ns) (suc i) = quotient_at ns i

pub one_if : (b : Bool) → bool_byte b ≡ (if b then 1 else 0)
one_if true = refl
one_if false = refl

pub at_most_one : (b : Bool) → (if b then 1 else 0) ≤ 1
at_most_one true = omega arith
at_most_one false = omega arith

-- ---- how many of the places have a value, by numbers that hold both levels

pub as_many_defined : (ls : List Levels) (ns : List ℕ) → definitions ls ≡ map (λ n. n / 256) ns → length ls ≡ length ns
as_many_defined ls ns e = sym (length-map ls (λ (l : Levels). l.definition)) ∙ ap length e ∙ length-map ns (λ n. n / 256)

-- one more is counted
pub present_more : (g : ℕ) (ls : List Levels) (ns : List ℕ) (i count one : ℕ) → definitions ls ≡ map (λ n. n / 256) ns → i < length ns → count ≡ present g (take i ls) → one ≡ bool_byte (get_or ns i 0 / 256 == g)
    → count + one ≡ present g (take (i + 1) ls)
present_more g ls ns i count one e h c o =
    let z : Levels = record { repetition = 0; definition = 0 } in
    let n : i < length ls = omega (arith, h, as_many_defined ls ns e) in
    let x : (get_or ls i z).definition ≡ get_or ns i 0 / 256 = definition_at ls i z refl ∙ (ap (λ (xs : List ℕ). get_or xs i 0) e ∙ quotient_at ns i) in
    let k : one ≡ present g (get_or ls i z ∷ []) = o ∙ (ap (λ (m : ℕ). bool_byte (m == g)) (sym x) ∙ (value_byte g (get_or ls i z)).0) in
    omega (arith, c, k, counted_more g ls i z n)
