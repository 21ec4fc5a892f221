-- How a plan's condition is made ready to be judged.
use Rattle.std.specs.Prelude.{◌≡◌, ◌≤◌, ◌<◌, ℕ, zero, suc, List, [], ◌∷◌, length, Option, Some, None}
use Rattle.std.specs.List.{slice_index_or, remove}
use Rattle.dr_meaning.specs.Path.{Step, max_repetition}
use Rattle.dr_plan.specs.declared.expression.Truth.{Truth}
use Rattle.dr_scalar.specs.Leaves.{greatest, truth_leaves}
use Rattle.dr_rows_beside.specs.declared.judging.Test.{Test}
use Rattle.dr_rows_beside.specs.declared.keeping.Keeping.{Keeping}
use Rattle.dr_rows_beside.specs.KeptBits.{commons}
use Rattle.dr_rows_beside.specs.Sources.{all_beside}

-- those of some tests that read a leaf
abbrev pub onto_read : Option ℕ → Truth → List Truth → List Truth
onto_read None t ts = ts
onto_read (Some k) t ts = t ∷ ts

abbrev pub reading : List Truth → List Truth
reading [] = []
reading (t ∷ ts) = onto_read (greatest (truth_leaves t)) t (reading ts)

-- a test by its last leaf, with those that it reads beside it
pub record IsMadeOf (F : List (List Step)) (t : Truth) (x : Test) : Type 0 where
  pub truth_is : x.truth.now ≡ t
  pub last : greatest (truth_leaves t) ≡ Some x.source.leaf
  pub deep : x.depth ≡ max_repetition (slice_index_or F x.source.leaf [])
  pub read : x.source.beside.items ≡ all_beside F x.source.leaf [] (truth_leaves t)

abbrev pub AreMadeOf : List (List Step) → List Truth → List Test → Type 0
AreMadeOf F [] [] = Unit {0}
AreMadeOf F [] (x ∷ xs) = ⊥
AreMadeOf F (t ∷ ts) [] = ⊥
AreMadeOf F (t ∷ ts) (x ∷ xs) = IsMadeOf F t x × AreMadeOf F ts xs

-- the last leaf of a test at a place
abbrev pub leaf_at : List Test → ℕ → ℕ
leaf_at [] i = 0
leaf_at (t ∷ ts) zero = t.source.leaf
leaf_at (t ∷ ts) (suc i) = leaf_at ts i

-- none of the first so many reads a later leaf than the one at a place
abbrev pub IsLast : List Test → ℕ → ℕ → Type 0
IsLast ts n b = (i : ℕ) → i < n → leaf_at ts i ≤ leaf_at ts b

-- the tests that read leaves, one of which reads the last of them all; a place for each depth above it
pub record IsKeepingOf (F : List (List Step)) (ts : List Truth) (k : Keeping) : Type 0 where
  pub tests : List Test
  pub at : ℕ
  pub made : AreMadeOf F (reading ts) tests
  pub within : at < length tests
  pub own : k.own ≡ slice_index_or tests at k.own
  pub others : k.others.items ≡ remove tests at
  pub last : IsLast tests (length tests) at
  pub commons_are : k.commons.items ≡ commons F k.own.source.leaf
  pub depths : length k.above.items ≡ k.own.depth
  pub few : length k.above.items ≤ 256
