-- What a group query makes over the moves of records that a condition cuts: things told at the triplets of one leaf each, or at each record.
use Rattle.std.specs.Prelude.{ℕ, List, [], ◌∷◌, ◌++◌, ◌==◌, if◌then◌else◌, Option, None, Some}
use Rattle.dr_meaning.specs.Path.{Step}
use Rattle.dr_meaning.specs.Record.{Node}
use Rattle.dr_moves.specs.Context.{Context}

-- at a triplet of leaf i one thing, by the context; at any other nothing
abbrev pub fired_at : {X : Type 0} → ℕ → (Context → X) → ℕ → Context → List X
fired_at i f k c = if k == i then f c ∷ [] else []

-- what was made in an instance stays as it is
abbrev pub left_alone : {X : Type 0} → ℕ → Context → List X → List X
left_alone k c made = made

-- ---- several things

-- one thing for each row of a chain: what fires at the triplets of a leaf, or without one where a record is left; and what it means in the row
pub record Reading (X : Type 0) : Type 0 where
  pub leaf : Option ℕ
  pub fires : Context → X
  pub level : List Step
  pub means : Node → X

-- at a triplet
abbrev pub fired_if : {X : Type 0} → Option ℕ → (Context → X) → ℕ → Context → List X
fired_if None f k c = []
fired_if (Some i) f k c = fired_at i f k c

-- of several readings, in their order
abbrev pub all_fired : {X : Type 0} → List (Reading X) → ℕ → Context → List X
all_fired [] k c = []
all_fired (r ∷ rs) k c = fired_if r.leaf r.fires k c ++ all_fired rs k c

-- where a record is left
abbrev pub left_if : {X : Type 0} → Option ℕ → (Context → X) → Context → List X
left_if None f c = f c ∷ []
left_if (Some i) f c = []

-- of several readings, in their order
abbrev pub all_left : {X : Type 0} → List (Reading X) → Context → List X
all_left [] c = []
all_left (r ∷ rs) c = left_if r.leaf r.fires c ++ all_left rs c

-- where an instance is left, what was made in it stays; behind what was made in a record come these
abbrev pub left_with : {X : Type 0} → (Context → List X) → ℕ → Context → List X → List X
left_with more k c made = if k == 0 then made ++ more c else made
