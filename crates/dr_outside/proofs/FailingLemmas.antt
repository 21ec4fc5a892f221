-- A quiet list of failing calls stays quiet.
use Rattle.std.proofs.Common.{◌≡◌, ℕ, ◌+◌, ◌≤◌, ◌==◌, true, false, nat_le, List, [], ◌∷◌, refl, arith}
use Rattle.std.specs.List.{list_all, list_any}
use Rattle.std.proofs.lemmas.Grind.{common_steps}
use Rattle.dr_outside.specs.Failing.{Failing, is_due, is_quiet}

-- no number of the list is above c, so c + 1 isn't in it
pub none_listed : (c : ℕ) (xs : List ℕ) → list_all (λ n. nat_le n c) xs ≡ true → list_any (λ n. n == c + 1) xs ≡ false
none_listed c [] h = refl
none_listed c (x ∷ xs) h = grind (arith, common_steps, none_listed c xs)

-- no number above a greater bound either
pub all_below : (c d : ℕ) (xs : List ℕ) → c ≤ d → list_all (λ n. nat_le n c) xs ≡ true → list_all (λ n. nat_le n d) xs ≡ true
all_below c d [] le h = refl
all_below c d (x ∷ xs) le h = grind (arith, common_steps, all_below c d xs)

-- where no further call is listed, the next one doesn't fail
pub quiet_not_due : (f : Failing) → is_quiet f ≡ true → is_due f ≡ false
quiet_not_due f h = let none = none_listed f.calls f.listed h in grind (arith, common_steps)
