-- The strips of a group's fields by their places.
use Rattle.std.proofs.Common.{◌≡◌, ℕ, zero, suc, ◌+◌, List, [], ◌∷◌, false, refl, ap, ◌∙◌, arith}
use Rattle.std.specs.Prelude.{◌==◌, if◌then◌else◌}
use Rattle.std.proofs.lemmas.Bool.Decides.{nat_tests}
use Rattle.dr_meaning.specs.Path.{Step}
use Rattle.dr_meaning.specs.Column.{Triplet}
use Rattle.dr_assemble.specs.Restoring.{Strip, strip}
use Rattle.dr_assemble.proofs.ByPaths.{here_if, strips_here, there_if, strips_there}

-- before others the strip, where its path begins at the place
abbrev pub at_if : ℕ → List Step → List Triplet → List Strip → List Strip
at_if k [] ts S = S
at_if k (s ∷ p) ts S = if s.place == k then strip p ts ∷ S else S

-- the strips of the leaves in the field at a place
abbrev pub at_place : ℕ → List Strip → List Strip
at_place k [] = []
at_place k (g ∷ S) = at_if k g.rest g.triplets (at_place k S)

-- ---- the strips in the field at a place

-- the strips as the fields from a place on count them
abbrev pub shifted : ℕ → List Strip → List Strip
shifted zero S = S
shifted (suc k) S = strips_there (shifted k S)

zero_is_no_suc : (k : ℕ) → (zero == suc k) ≡ false
zero_is_no_suc k = grind (arith, nat_tests)

suc_is_not_zero : (k : ℕ) → (suc k == zero) ≡ false
suc_is_not_zero k = grind (arith, nat_tests)

same_test : (i k : ℕ) → (suc i == suc k) ≡ (i == k)
same_test i k = grind (arith, nat_tests)

here_if-is : (i : ℕ) (p : List Step) (ts : List Triplet) (S : List Strip) → here_if i p ts S ≡ (if i == zero then strip p ts ∷ S else S)
here_if-is zero p ts S = refl
here_if-is (suc i) p ts S = rw (suc_is_not_zero i) refl

here-strip : (p : List Step) (ts : List Triplet) (S T : List Strip) → strips_here S ≡ T → strips_here (strip p ts ∷ S) ≡ at_if zero p ts T
here-strip [] ts S T e = e
here-strip (s ∷ p) ts S T e = here_if-is s.place p ts (strips_here S) ∙ ap (λ (U : List Strip). if s.place == zero then strip p ts ∷ U else U) e

here-is : (S : List Strip) → strips_here S ≡ at_place zero S
here-is [] = refl
here-is (g ∷ S) = here-strip g.rest g.triplets S (at_place zero S) (here-is S)

there_if-is : (k i : ℕ) (s : Step) (p : List Step) (ts : List Triplet) (S : List Strip) → at_place k (there_if i s p ts S) ≡ (if i == suc k then strip p ts ∷ at_place k S else at_place k S)
there_if-is k zero s p ts S = rw (zero_is_no_suc k) refl
there_if-is k (suc i) s p ts S = rw (same_test i k) refl

there-strip : (k : ℕ) (p : List Step) (ts : List Triplet) (S T : List Strip) → at_place k (strips_there S) ≡ T → at_place k (strips_there (strip p ts ∷ S)) ≡ at_if (suc k) p ts T
there-strip k [] ts S T e = e
there-strip k (s ∷ p) ts S T e = there_if-is k s.place s p ts (strips_there S) ∙ ap (λ (U : List Strip). if s.place == suc k then strip p ts ∷ U else U) e

there-is : (k : ℕ) (S : List Strip) → at_place k (strips_there S) ≡ at_place (suc k) S
there-is k [] = refl
there-is k (g ∷ S) = there-strip k g.rest g.triplets S (at_place (suc k) S) (there-is k S)

shifted-is : (j k : ℕ) (S : List Strip) → at_place j (shifted k S) ≡ at_place (k + j) S
shifted-is j zero S = let e : j ≡ 0 + j = omega arith in ap (λ (i : ℕ). at_place i S) e
shifted-is j (suc k) S = let e : k + suc j ≡ suc k + j = omega arith in there-is j (shifted k S) ∙ shifted-is (suc j) k S ∙ ap (λ (i : ℕ). at_place i S) e

pub here_shifted : (k : ℕ) (S : List Strip) → strips_here (shifted k S) ≡ at_place k S
here_shifted k S = let e : k + 0 ≡ k = omega arith in here-is (shifted k S) ∙ shifted-is zero k S ∙ ap (λ (i : ℕ). at_place i S) e
