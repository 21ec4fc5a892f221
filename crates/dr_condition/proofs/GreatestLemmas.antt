-- The greatest of some numbers, in both spellings.
use Rattle.std.proofs.Common.{◌≡◌, ℕ, max, List, [], ◌∷◌, Option, Some, None, refl, ap, ◌∙◌, arith}
use Rattle.std.specs.Prelude.{nat_lt, if◌then◌else◌}
use Rattle.std.proofs.lemmas.Bool.Decides.{nat_tests}
use Rattle.dr_made_laws.specs.LastRead as last_read
use Rattle.dr_scalar.specs.Leaves.{greater, greatest}

max_if : (k m : ℕ) → max k m ≡ (if nat_lt k m then m else k)
max_if k m = grind (arith, nat_tests)

greater_is : (k : ℕ) (o : Option ℕ) → greater (Some k) o ≡ Some (last_read.greater_of k o)
greater_is k None = refl
greater_is k (Some m) = ap Some (max_if k m)

pub same_greatest : (K : List ℕ) → greatest K ≡ last_read.greatest K
same_greatest [] = refl
same_greatest (k ∷ K) = ap (greater (Some k)) (same_greatest K) ∙ greater_is k (last_read.greatest K)
