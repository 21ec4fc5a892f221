-- The pieces of triplets, by their repetition levels.
use Rattle.std.specs.Prelude.{◌≡◌, ◌≤◌, ◌<◌, ℕ, suc, ◌+◌, ◌-◌, List, [], ◌∷◌, length, map, take, drop, Bool, true, false, nat_lt, ◌==◌, IsTrue, if◌then◌else◌}
use Rattle.std.proofs.Common.{true≢false}
use Rattle.std.proofs.lemmas.Bool.Decides.{nat_tests}
use Rattle.std.proofs.Common.{refl, sym, ap, ◌∙◌, arith}
use Rattle.std.proofs.lemmas.List.{take_all, length-map}
use Rattle.dr_meaning.specs.Column.{Triplet}
use Rattle.dr_levels.specs.declared.triplet.Levels.{Levels}
use Rattle.dr_levels.specs.Views.{levels_pair, triplet_levels}
use Rattle.dr_assemble.specs.Restoring.{above, from_below, first_piece, later_pieces, count_below, count_pieces}
use Rattle.dr_assemble.specs.Pieces.{repetition_of, above_length, below_count}

abbrev repetitions : List Triplet → List ℕ
repetitions ts = map (λ (t : Triplet). t.repetition) ts

firsts-levels : (ls : List Levels) → map (λ (p : ℕ × ℕ). p.0) (map levels_pair ls) ≡ map repetition_of ls
firsts-levels [] = refl
firsts-levels (l ∷ ls) = ap (λ rs. l.repetition ∷ rs) (firsts-levels ls)

firsts-triplets : (ts : List Triplet) → map (λ (p : ℕ × ℕ). p.0) (map triplet_levels ts) ≡ repetitions ts
firsts-triplets [] = refl
firsts-triplets (t ∷ ts) = ap (λ rs. t.repetition ∷ rs) (firsts-triplets ts)

same_repetitions : (ls : List Levels) (ts : List Triplet) → map levels_pair ls ≡ map triplet_levels ts → map repetition_of ls ≡ repetitions ts
same_repetitions ls ts e = sym (firsts-levels ls) ∙ ap (map (λ (p : ℕ × ℕ). p.0)) e ∙ firsts-triplets ts

same_length : (ls : List Levels) (ts : List Triplet) → map levels_pair ls ≡ map triplet_levels ts → length ls ≡ length ts
same_length ls ts e = sym (length-map ls levels_pair) ∙ ap length e ∙ length-map ts triplet_levels

-- ---- up to the next piece

taken_by : (b : Bool) (t : Triplet) (ts : List Triplet) (n : ℕ) (us : List Triplet) → take n ts ≡ us → take (if b then suc n else 0) (t ∷ ts) ≡ (if b then t ∷ us else [])
taken_by true t ts n us e = ap (λ xs. t ∷ xs) e
taken_by false t ts n us e = refl

take-above : (l : ℕ) (ts : List Triplet) → take (above_length l (repetitions ts)) ts ≡ above l ts
take-above l [] = refl
take-above l (t ∷ ts) = taken_by (nat_lt l t.repetition) t ts (above_length l (repetitions ts)) (above l ts) (take-above l ts)

dropped_by : (b : Bool) (t : Triplet) (ts : List Triplet) (n : ℕ) (us : List Triplet) → drop n ts ≡ us → drop (if b then suc n else 0) (t ∷ ts) ≡ (if b then us else t ∷ ts)
dropped_by true t ts n us e = e
dropped_by false t ts n us e = refl

drop-above : (l : ℕ) (ts : List Triplet) → drop (above_length l (repetitions ts)) ts ≡ from_below l ts
drop-above l [] = refl
drop-above l (t ∷ ts) = dropped_by (nat_lt l t.repetition) t ts (above_length l (repetitions ts)) (from_below l ts) (drop-above l ts)

within_by : (b : Bool) (n m : ℕ) → n ≤ m → (if b then suc n else 0) ≤ suc m
within_by true n m h = omega (arith, h)
within_by false n m h = omega arith

above-within : (l : ℕ) (rs : List ℕ) → above_length l rs ≤ length rs
above-within l [] = omega arith
above-within l (r ∷ rs) = within_by (nat_lt l r) (above_length l rs) (length rs) (above-within l rs)

below-is : (l : ℕ) (ts : List Triplet) → below_count l (repetitions ts) ≡ count_below l ts
below-is l [] = refl
below-is l (t ∷ ts) = ap (λ n. if nat_lt l t.repetition then n else suc n) (below-is l ts)

-- ---- the first piece, of levels that are not none

tail_of : (x : Levels) (ls : List Levels) → take (length (x ∷ ls) - 1) ls ≡ ls
tail_of x ls = let e : length (x ∷ ls) - 1 ≡ length ls = omega arith in take_all (length (x ∷ ls) - 1) ls (omega (arith, e))

pub first_taken : (l : ℕ) (ls : List Levels) (ts : List Triplet) (n : ℕ) → map levels_pair ls ≡ map triplet_levels ts → 1 ≤ length ls → n ≡ above_length l (map repetition_of (take (length ls - 1) (drop 1 ls)))
    → (1 + n ≤ length ts) × (take (1 + n) ts ≡ first_piece l ts) × (drop (1 + n) ts ≡ later_pieces l ts)
first_taken l [] ts n e h g = absurd (omega (arith, h))
first_taken l (x ∷ ls) [] n e h g = absurd (cc)
first_taken l (x ∷ ls) (t ∷ ts) n e h g =
    let r : map repetition_of (x ∷ ls) ≡ repetitions (t ∷ ts) = same_repetitions (x ∷ ls) (t ∷ ts) e in
    let tails : map repetition_of ls ≡ repetitions ts = ap (drop 1) r in
    let m : n ≡ above_length l (repetitions ts) = g ∙ ap (λ ys. above_length l (map repetition_of ys)) (tail_of x ls) ∙ ap (above_length l) tails in
    let one : 1 + n ≡ suc n = omega arith in
    let len : length (repetitions ts) ≡ length ts = length-map ts (λ (u : Triplet). u.repetition) in
    let w : above_length l (repetitions ts) ≤ length (repetitions ts) = above-within l (repetitions ts) in (
      omega (arith, m, w, len),
      ap (λ k. take k (t ∷ ts)) one ∙ ap (λ k. t ∷ take k ts) m ∙ ap (λ us. t ∷ us) (take-above l ts),
      ap (λ k. drop k (t ∷ ts)) one ∙ ap (λ k. drop k ts) m ∙ drop-above l ts,
    )

pub pieces_counted : (l : ℕ) (ls : List Levels) (ts : List Triplet) (n : ℕ) → map levels_pair ls ≡ map triplet_levels ts → 1 ≤ length ls → n ≡ below_count l (map repetition_of (take (length ls - 1) (drop 1 ls))) → 1 + n ≡ count_pieces l ts
pieces_counted l [] ts n e h g = absurd (omega (arith, h))
pieces_counted l (x ∷ ls) [] n e h g = absurd (cc)
pieces_counted l (x ∷ ls) (t ∷ ts) n e h g =
    let r : map repetition_of (x ∷ ls) ≡ repetitions (t ∷ ts) = same_repetitions (x ∷ ls) (t ∷ ts) e in
    let tails : map repetition_of ls ≡ repetitions ts = ap (drop 1) r in
    let m : n ≡ count_below l ts = g ∙ ap (λ ys. below_count l (map repetition_of ys)) (tail_of x ls) ∙ ap (below_count l) tails ∙ below-is l ts in
    let one : 1 + n ≡ suc n = omega arith in
    one ∙ ap (λ k. suc k) m

-- no levels, no triplets
pub none_there : (ls : List Levels) (ts : List Triplet) → map levels_pair ls ≡ map triplet_levels ts → length ls < 1 → ts ≡ []
none_there [] [] e h = refl
none_there [] (t ∷ ts) e h = absurd (cc)
none_there (x ∷ ls) ts e h = absurd (omega (arith, h))

not_zero : (n : ℕ) → (suc n == 0) ≡ false
not_zero n = grind (arith, nat_tests)

-- none are left exactly where no levels are
pub none_left : (ls : List Levels) (ts : List Triplet) (b : Bool) → map levels_pair ls ≡ map triplet_levels ts → b ≡ (length ls == 0) → (IsTrue b → ts ≡ []) × (ts ≡ [] → IsTrue b)
none_left [] [] b e h = (λ g. refl, λ g. h)
none_left [] (t ∷ ts) b e h = absurd (cc)
none_left (l ∷ ls) [] b e h = absurd (cc)
none_left (l ∷ ls) (t ∷ ts) b e h = (λ g. absurd (true≢false (sym g ∙ h ∙ not_zero (length ls))), λ g. absurd (cc))
