-- The numbers of the repeated fields on a path, as moves name them.
use Rattle.std.specs.Prelude.{◌≡◌, ℕ, zero, suc, ◌+◌, List, [], ◌∷◌, map, true, Option, Some}
use Rattle.std.specs.List.{slice_get}
use Rattle.dr_meaning.specs.Schema.{Repetition, required, optional, repeated, Fields, no_fields, field, Shape, leaf, group, repetition_count}
use Rattle.dr_meaning.specs.Schema.{shape_repeated_fields}
use Rattle.dr_meaning.specs.Path.{Step, chain, chain_end, is_leaf_path}
use Rattle.dr_meaning.specs.Walk.{repeated_paths}

-- for the first place one thing, for a later one another
abbrev pub by_place : {A : Type 0} → ℕ → A → (ℕ → A) → A
by_place zero first later = first
by_place (suc i) first later = later i

-- a field's number, if it has one, before the numbers below it, which begin behind it
abbrev pub own_number : Repetition → ℕ → (ℕ → List ℕ) → List ℕ
own_number required k below = below k
own_number optional k below = below k
own_number repeated k below = k ∷ below (suc k)

abbrev mutual
  -- the numbers on a path in a group, whose first repeated field has the number k
  pub numbers_in : Fields → ℕ → List Step → List ℕ
  numbers_in no_fields k p = []
  numbers_in (field m r s fs) k [] = []
  numbers_in (field m r s fs) k (t ∷ p) = by_place t.place (own_number r k (λ j. shape_numbers s j p))
      (λ i. numbers_in fs (k + (repetition_count r + shape_repeated_fields s)) (record { place = i; repetition = t.repetition } ∷ p))

  -- the numbers on a path below a shape
  pub shape_numbers : Shape → ℕ → List Step → List ℕ
  shape_numbers (leaf j) k p = []
  shape_numbers (group fs) k p = numbers_in fs k p

-- the numbers of the repeated fields on a path of a schema, outermost first
abbrev pub chain_numbers : Fields → List Step → List ℕ
chain_numbers fs p = numbers_in fs 1 p

-- the path that a number names: 0 the record's, the others those of the repeated fields
abbrev pub numbered_path : Fields → ℕ → Option (List Step)
numbered_path fs zero = Some []
numbered_path fs (suc k) = slice_get (repeated_paths fs) k

-- the numbers on a leaf's path name the repeated fields of its chain, one each, and so do those on the path of its chain's end
abbrev pub NumbersNameChain : Type 0
NumbersNameChain = (fs : Fields) (p : List Step) → is_leaf_path fs p ≡ true
    → (map (numbered_path fs) (chain_numbers fs p) ≡ map (λ c. Some c) (chain p)) × (chain_numbers fs (chain_end p) ≡ chain_numbers fs p)
