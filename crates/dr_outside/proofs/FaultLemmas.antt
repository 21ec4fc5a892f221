-- How a count moves.
use Rattle.std.proofs.Common.{◌≡◌, ◌≤◌, ◌+◌, ◌-◌, ◌^◌, ℕ, min, arith}
use Rattle.std.proofs.lemmas.Bool.Decides.{nat_tests}
use Rattle.dr_outside.specs.Faults.{raised}

-- one more is no less
pub raised_never_falls : (count : ℕ) → count ≤ raised count
raised_never_falls count = grind (arith, nat_tests)

-- nor is it more than one more
pub raised_by_one : (count : ℕ) → raised count ≤ count + 1
raised_by_one count = grind (arith, nat_tests)

-- what a count of the machine is after one more
pub saturated_is_raised : (count : ℕ) → count ≤ 2 ^ 64 - 1 → min (count + 1) (2 ^ 64 - 1) ≡ raised count
saturated_is_raised count h = grind (arith, nat_tests)
