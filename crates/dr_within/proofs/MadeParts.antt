-- The objects and the values in what was made, in two parts.
use Rattle.std.proofs.Common.{◌≡◌, ℕ, List, [], ◌∷◌, ◌++◌, Bool, true, false, refl, ap, ◌∙◌}
use Rattle.std.specs.Prelude.{map, ◌==◌, if◌then◌else◌, Option}
use Rattle.dr_meaning.specs.Record.{Value}
use Rattle.dr_meaning.specs.Query.{Object}
use Rattle.dr_made_laws.specs.ObjectFlow.{Made, built, taken, values_for, objects_for}
use Rattle.dr_made_laws.specs.ObjectFlowLaws.{made_objects}
use Rattle.dr_within.specs.ObjectFraming.{built_in}

-- ---- one part behind another

pub built_both : (ms ns : List Made) → built_in (ms ++ ns) ≡ built_in ms ++ built_in ns
built_both [] ns = refl
built_both (built k o ∷ ms) ns = ap (λ (xs : List Made). built k o ∷ xs) (built_both ms ns)
built_both (taken j v ∷ ms) ns = built_both ms ns

pub objects_both : (ms ns : List Made) → made_objects (ms ++ ns) ≡ made_objects ms ++ made_objects ns
objects_both [] ns = refl
objects_both (built k o ∷ ms) ns = ap (λ (xs : List Object). o ∷ xs) (objects_both ms ns)
objects_both (taken j v ∷ ms) ns = objects_both ms ns

pub objects_for_both : (k : ℕ) (ms ns : List Made) → objects_for k (ms ++ ns) ≡ objects_for k ms ++ objects_for k ns
objects_for_both k [] ns = refl
objects_for_both k (built i o ∷ ms) ns = ap (λ (xs : List Object). if i == k then o ∷ xs else xs) (objects_for_both k ms ns) ∙ by_test (i == k)
  where
    by_test : (b : Bool) → ◌≡◌ {A = List Object} (if b then o ∷ (objects_for k ms ++ objects_for k ns) else objects_for k ms ++ objects_for k ns) ((if b then o ∷ objects_for k ms else objects_for k ms) ++ objects_for k ns)
    by_test true = refl
    by_test false = refl
objects_for_both k (taken j v ∷ ms) ns = objects_for_both k ms ns

pub values_for_both : (j : ℕ) (ms ns : List Made) → values_for j (ms ++ ns) ≡ values_for j ms ++ values_for j ns
values_for_both j [] ns = refl
values_for_both j (built i o ∷ ms) ns = values_for_both j ms ns
values_for_both j (taken i v ∷ ms) ns = ap (λ (xs : List (Option Value)). if i == j then v ∷ xs else xs) (values_for_both j ms ns) ∙ by_test (i == j)
  where
    by_test : (b : Bool) → ◌≡◌ {A = List (Option Value)} (if b then v ∷ (values_for j ms ++ values_for j ns) else values_for j ms ++ values_for j ns) ((if b then v ∷ values_for j ms else values_for j ms) ++ values_for j ns)
    by_test true = refl
    by_test false = refl

-- ---- the objects alone

pub objects_of_built : (ms : List Made) → made_objects (built_in ms) ≡ made_objects ms
objects_of_built [] = refl
objects_of_built (built k o ∷ ms) = ap (λ (xs : List Object). o ∷ xs) (objects_of_built ms)
objects_of_built (taken j v ∷ ms) = objects_of_built ms

pub objects_for_built : (k : ℕ) (ms : List Made) → objects_for k (built_in ms) ≡ objects_for k ms
objects_for_built k [] = refl
objects_for_built k (built i o ∷ ms) = ap (λ (xs : List Object). if i == k then o ∷ xs else xs) (objects_for_built k ms)
objects_for_built k (taken j v ∷ ms) = objects_for_built k ms

-- ---- of one level

pub run_objects : (k : ℕ) (os : List Object) → made_objects (map (built k) os) ≡ os
run_objects k [] = refl
run_objects k (o ∷ os) = ap (λ (xs : List Object). o ∷ xs) (run_objects k os)

pub run_objects_for : (i k : ℕ) (os : List Object) → objects_for i (map (built k) os) ≡ (if k == i then os else [])
run_objects_for i k os = by_test (k == i) refl os
  where
    by_test : (b : Bool) → (k == i) ≡ b → (os : List Object) → objects_for i (map (built k) os) ≡ (if b then os else [])
    by_test true e [] = refl
    by_test false e [] = refl
    by_test true e (o ∷ os) = ap (λ (b : Bool). if b then o ∷ objects_for i (map (built k) os) else objects_for i (map (built k) os)) e ∙ ap (λ (xs : List Object). o ∷ xs) (by_test true e os)
    by_test false e (o ∷ os) = ap (λ (b : Bool). if b then o ∷ objects_for i (map (built k) os) else objects_for i (map (built k) os)) e ∙ by_test false e os
