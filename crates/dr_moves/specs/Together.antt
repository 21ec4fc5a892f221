-- Leaves that are read together: in each row of the chain of the second both stand, and the first is read before it, in reading order, or is it.
use Rattle.std.specs.Prelude.{◌≡◌, ◌<◌, ◌⊎◌, ℕ, List, [], ◌∷◌, false, ◌==◌}
use Rattle.dr_meaning.specs.Schema.{Repetition}
use Rattle.dr_meaning.specs.Path.{Step, max_repetition}

abbrev pub step : ℕ → Repetition → Step
step i r = record { place = i; repetition = r }

-- paths that part at these steps: the first leads to a leaf of this level, and the second below a repeated field, or to a later leaf of this level
abbrev pub IsApart : Step → Step → List Step → List Step → Type 0
IsApart s t q p = ((s.place == t.place) ≡ false) × (max_repetition (s ∷ q) ≡ 0) × ((0 < max_repetition (t ∷ p)) ⊎ ((s.place < t.place) × (max_repetition (t ∷ p) ≡ 0)))

-- the leaf at the end of the first path is read together with the one at the end of the second; E is known where they are one leaf, B where they part
pub data Together (E B : Type 0) : List Step → List Step → Type 0 where
  same_leaf : E → Together E B [] []
  along : (a : ℕ) (c e : Repetition) (q p : List Step) → Together E B q p → Together E B (step a c ∷ q) (step a e ∷ p)
  apart : (s t : Step) (q p : List Step) → B → IsApart s t q p → Together E B (s ∷ q) (t ∷ p)
