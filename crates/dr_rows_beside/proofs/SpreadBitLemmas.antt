-- Bits that are spread over the places of a leaf, and how many are set.
use Rattle.std.proofs.Common.{◌≡◌, ℕ, zero, suc, ◌+◌, ◌<◌, ◌≤◌, List, [], ◌∷◌, ◌++◌, length, take, drop, get_or, Bool, true, false, refl, sym, ap, ap₂, ◌∙◌, subst, arith, add-one}
use Rattle.std.specs.Prelude.{nat_le, if◌then◌else◌}
use Rattle.std.proofs.lemmas.List.{append_assoc}
use Rattle.std.proofs.lemmas.Bool.{and_from, and_parts, le-leb, leb-true}
use Rattle.dr_beside.specs.Spreading.{next_of, rest_of, spread_over}
use Rattle.dr_rows_beside.specs.Bits.{all_within, set_bits}
use Rattle.dr_rows_beside.proofs.BitLemmas.{dropped}

-- ---- one place more

spread_step : (k : ℕ) (now bit : Bool) (xs rest : List Bool) (r : ℕ) (rs : List ℕ) (out whole : List Bool) → bit ≡ (if nat_le r k then next_of now xs else now) → rest ≡ (if nat_le r k then rest_of xs else xs)
    → out ++ spread_over k now xs (r ∷ rs) ≡ whole → (out ++ bit ∷ []) ++ spread_over k bit rest rs ≡ whole
spread_step k now bit xs rest r rs out whole = by_test (nat_le r k)
  where
    by_test : (t : Bool) → bit ≡ (if t then next_of now xs else now) → rest ≡ (if t then rest_of xs else xs)
        → out ++ (if t then next_of now xs ∷ spread_over k (next_of now xs) (rest_of xs) rs else now ∷ spread_over k now xs rs) ≡ whole → (out ++ bit ∷ []) ++ spread_over k bit rest rs ≡ whole
    by_test true b e h = append_assoc out (bit ∷ []) (spread_over k bit rest rs) ∙ ap₂ (λ (x : Bool) (ys : List Bool). out ++ x ∷ spread_over k x ys rs) b e ∙ h
    by_test false b e h = append_assoc out (bit ∷ []) (spread_over k bit rest rs) ∙ ap₂ (λ (x : Bool) (ys : List Bool). out ++ x ∷ spread_over k x ys rs) b e ∙ h

pub spread_more : (k i : ℕ) (now bit : Bool) (xs rest : List Bool) (rs : List ℕ) (out after whole : List Bool) → i < length rs → bit ≡ (if nat_le (get_or rs i 0) k then next_of now xs else now)
    → rest ≡ (if nat_le (get_or rs i 0) k then rest_of xs else xs) → after ≡ out ++ bit ∷ [] → out ++ spread_over k now xs (drop i rs) ≡ whole → after ++ spread_over k bit rest (drop (i + 1) rs) ≡ whole
spread_more k i now bit xs rest rs out after whole h b e a before =
    ap₂ (λ (ys : List Bool) (j : ℕ). ys ++ spread_over k bit rest (drop j rs)) a (add-one i)
    ∙ spread_step k now bit xs rest (get_or rs i 0) (drop (suc i) rs) out whole b e (ap (λ (ss : List ℕ). out ++ spread_over k now xs ss) (sym (dropped rs i 0 h)) ∙ before)

nothing_more : (xs : List Bool) → xs ++ [] ≡ xs
nothing_more [] = refl
nothing_more (x ∷ xs) = ap (λ (ys : List Bool). x ∷ ys) (nothing_more xs)

none_left : (rs : List ℕ) (i : ℕ) → length rs ≤ i → drop i rs ≡ []
none_left [] zero h = refl
none_left [] (suc i) h = refl
none_left (r ∷ rs) zero h = absurd (omega (arith, h))
none_left (r ∷ rs) (suc i) h = none_left rs i (omega (arith, h))

pub spread_ends : (k i : ℕ) (now : Bool) (xs : List Bool) (rs : List ℕ) (out whole : List Bool) → length rs ≤ i → out ++ spread_over k now xs (drop i rs) ≡ whole → out ≡ whole
spread_ends k i now xs rs out whole h e = sym (nothing_more out) ∙ ap (λ (ss : List ℕ). out ++ spread_over k now xs ss) (sym (none_left rs i h)) ∙ e

-- ---- how many are set

set_taken : (bs : List Bool) (i : ℕ) → i < length bs → set_bits (take (suc i) bs) ≡ set_bits (take i bs) + (if get_or bs i false then 1 else 0)
set_taken [] i h = absurd (omega (arith, h))
set_taken (b ∷ bs) zero h = omega arith
set_taken (b ∷ bs) (suc i) h = omega (arith, set_taken bs i (omega (arith, h)))

pub set_more : (bs : List Bool) (i : ℕ) → i < length bs → set_bits (take i bs) + (if get_or bs i false then 1 else 0) ≡ set_bits (take (i + 1) bs)
set_more bs i h = sym (set_taken bs i h) ∙ ap (λ (n : ℕ). set_bits (take n bs)) (sym (add-one i))

pub few_set : (bs : List Bool) (i : ℕ) → set_bits (take i bs) ≤ i
few_set [] zero = omega arith
few_set [] (suc i) = omega arith
few_set (b ∷ bs) zero = omega arith
few_set (b ∷ bs) (suc i) = few_by b (set_bits (take i bs)) i (few_set bs i)
  where
    few_by : (t : Bool) (m n : ℕ) → m ≤ n → (if t then 1 else 0) + m ≤ suc n
    few_by true m n h = omega (arith, h)
    few_by false m n h = omega (arith, h)

-- ---- levels that are within a depth are within a greater one

pub within_greater : (d k : ℕ) (rs : List ℕ) → d ≤ k → all_within d rs ≡ true → all_within k rs ≡ true
within_greater d k [] h e = refl
within_greater d k (r ∷ rs) h e =
    let w : (nat_le r d ≡ true) × (all_within d rs ≡ true) = and_parts _ _ e in
    let l : r ≤ d = leb-true r d w.0 in
    and_from _ _ (le-leb r k (omega (arith, h, l))) (within_greater d k rs h w.1)
