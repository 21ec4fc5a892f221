-- Columns by their numbers.
use Rattle.std.proofs.Common.{◌≡◌, ◌≢◌, ◌<◌, ◌≤◌, ◌+◌, ◌⊎◌, inl, inr, ℕ, zero, suc, List, [], ◌∷◌, ◌++◌, length, true, refl, sym, ap, ap₂, ◌∙◌, arith}
use Rattle.std.specs.Prelude.{nat_le}
use Rattle.std.proofs.lemmas.Bool.{and_from, cases_lt}
use Rattle.std.proofs.lemmas.Bool.Decides.{nat_tests}
use Rattle.std.proofs.lemmas.List.{length-append}
use Rattle.dr_meaning.specs.Column.{Triplet}
use Rattle.dr_formats.specs.File.{most_triplets}
use Rattle.dr_formats.specs.Writing.{triplet_count}
use Rattle.dr_moves.specs.Leading.{Left, columns_of}
use Rattle.dr_scan.specs.FileRecords.{are_short}

abbrev pub tabulated : ℕ → Left → List (List Triplet)
tabulated zero f = []
tabulated (suc n) f = f 0 ∷ tabulated n (λ i. f (suc i))

pub tabulated_length : (n : ℕ) (f : Left) → length (tabulated n f) ≡ n
tabulated_length zero f = refl
tabulated_length (suc n) f = ap suc (tabulated_length n (λ i. f (suc i)))

tabulated_at : (n i : ℕ) (f : Left) → i < n → columns_of (tabulated n f) i ≡ f i
tabulated_at zero i f l = absurd (omega (arith, l))
tabulated_at (suc n) zero f l = refl
tabulated_at (suc n) (suc i) f l = tabulated_at n i (λ j. f (suc j)) (omega (arith, l))

tabulated_past : (n i : ℕ) (f : Left) → n ≤ i → columns_of (tabulated n f) i ≡ []
tabulated_past zero i f l = refl
tabulated_past (suc n) zero f l = absurd (omega (arith, l))
tabulated_past (suc n) (suc i) f l = tabulated_past n i (λ j. f (suc j)) (omega (arith, l))

-- where those behind them are empty
pub tabulated_is : (n : ℕ) (f : Left) → ((i : ℕ) → n ≤ i → f i ≡ []) → (i : ℕ) → columns_of (tabulated n f) i ≡ f i
tabulated_is n f past i = by_side (cases_lt i n)
  where
    by_side : (i < n) ⊎ (n ≤ i) → columns_of (tabulated n f) i ≡ f i
    by_side (inl h) = tabulated_at n i f h
    by_side (inr h) = tabulated_past n i f h ∙ sym (past i h)

-- columns are those of their numbers
pub tabulated_of : (C : List (List Triplet)) (f : Left) → ((i : ℕ) → columns_of C i ≡ f i) → C ≡ tabulated (length C) f
tabulated_of [] f h = refl
tabulated_of (c ∷ C) f h = ap₂ (λ (x : List Triplet) (xs : List (List Triplet)). x ∷ xs) (h 0) (tabulated_of C (λ i. f (suc i)) (λ i. h (suc i)))

-- none of them is too long
pub short_by : (C : List (List Triplet)) → ((i : ℕ) → i < length C → length (columns_of C i) ≤ most_triplets) → are_short C ≡ true
short_by [] h = refl
short_by (c ∷ C) h = and_from _ _ (within (length c) (h 0 (omega arith))) (short_by C (λ i l. h (suc i) (omega (arith, l))))
  where
    within : (a : ℕ) → a ≤ most_triplets → nat_le a most_triplets ≡ true
    within a l = grind (arith, nat_tests)

tabulated_same : (n : ℕ) (f g : Left) → ((i : ℕ) → f i ≡ g i) → tabulated n f ≡ tabulated n g
tabulated_same zero f g h = refl
tabulated_same (suc n) f g h = ap₂ (λ (x : List Triplet) (xs : List (List Triplet)). x ∷ xs) (h 0) (tabulated_same n (λ i. f (suc i)) (λ i. g (suc i)) (λ i. h (suc i)))

never : 1 ≤ 0 → ⊥
never z = omega (arith, z)

-- where one of them has more
pub tabulated_count : (n k : ℕ) (more : List Triplet) (f g : Left) → k < n → g k ≡ f k ++ more → ((i : ℕ) → i ≢ k → g i ≡ f i) → triplet_count (tabulated n g) ≡ triplet_count (tabulated n f) + length more
tabulated_count zero k more f g l e h = absurd (omega (arith, l))
tabulated_count (suc n) zero more f g l e h =
    let a : length (g 0) ≡ length (f 0) + length more = ap length e ∙ length-append (f 0) more in
    let b : tabulated n (λ i. g (suc i)) ≡ tabulated n (λ i. f (suc i)) = tabulated_same n (λ i. g (suc i)) (λ i. f (suc i)) (λ i. h (suc i) (λ z. never (omega (arith, z)))) in
    let c = ap triplet_count b in
    omega (arith, a, c)
tabulated_count (suc n) (suc k) more f g l e h =
    let a : length (g 0) ≡ length (f 0) = ap length (h 0 (λ z. never (omega (arith, z)))) in
    let b = tabulated_count n k more (λ i. f (suc i)) (λ i. g (suc i)) (omega (arith, l)) e (λ i d. h (suc i) (λ z. d (omega (arith, z)))) in
    omega (arith, a, b)

pub tabulated_none : (n : ℕ) → triplet_count (tabulated n (λ i. [])) ≡ 0
tabulated_none zero = refl
tabulated_none (suc n) = let e = tabulated_none n in omega (arith, e)
