-- Laws of hybrid data.
use Rattle.std.specs.Prelude.{◌≡◌, ◌↔◌, ℕ, ◌^◌, ◌<◌, List, ◌++◌, length, true, nat_lt, Some}
use Rattle.std.specs.List.{list_all}
use Rattle.dr_formats.specs.Hybrid.{hybrid, Runs, hybrid_bytes}

-- values are read exactly where runs spell them
abbrev pub RunsAreReadExactly : Type 0
RunsAreReadExactly = (bytes : List ℕ) (width n : ℕ) (vs : List ℕ) → (hybrid width n bytes ≡ Some vs) ↔ Runs bytes width n vs

-- hybrid data of a width and a number of values has at most one list of values, and it has that number
abbrev pub OneListOfValues : Type 0
OneListOfValues = (bytes : List ℕ) (width n : ℕ) (us vs : List ℕ) → Runs bytes width n us → Runs bytes width n vs → (us ≡ vs) × (length us ≡ n)

-- what is written for values of a width is read as these values, whatever follows it
abbrev pub WrittenRunsAreRead : Type 0
WrittenRunsAreRead = (width : ℕ) (vs rest : List ℕ) → list_all (λ v. nat_lt v (2 ^ width)) vs ≡ true → length vs < 2 ^ 63
    → hybrid width (length vs) (hybrid_bytes width vs ++ rest) ≡ Some vs

-- and spells them
abbrev pub WrittenRunsAreSpelled : Type 0
WrittenRunsAreSpelled = (width : ℕ) (vs rest : List ℕ) → list_all (λ v. nat_lt v (2 ^ width)) vs ≡ true → length vs < 2 ^ 63
    → Runs (hybrid_bytes width vs ++ rest) width (length vs) vs
