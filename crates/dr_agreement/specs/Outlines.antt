-- Neighbours and outlines, in code.
use Rattle.std.specs.Prelude.{◌≡◌, ℕ, ◌+◌, ◌*◌, ◌<◌, ◌≤◌, List, [], ◌∷◌, Bool, ◌&&◌, min, nat_le, nat_lt, if◌then◌else◌, Some}
use Rattle.std.specs.List.{slice_get}
use Rattle.dr_meaning.specs.Path.{Step}
use Rattle.dr_meaning.specs.Column.{Triplet}
use Rattle.dr_beside.specs.Neighbours as meant
use Rattle.dr_beside.specs.Neighbours.{shared}
use Rattle.dr_levels.specs.declared.triplet.Levels.{Levels}
use Rattle.dr_agreement.specs.declared.outlines.Neighbours.{Neighbours}
use Rattle.dr_agreement.specs.Fronts.{IsFront}

abbrev pub neighbours_view : Neighbours → meant.Neighbours
neighbours_view n = record { leaf = n.leaf; earlier = n.earlier; repeated = n.front.repeated; defined = n.front.defined }

-- neighbours of a leaf: no earlier one shares more fields with it
pub record IsNearest (F : List (List Step)) (i : ℕ) (n : Neighbours) : Type 0 where
  pub is_front : IsFront F i n.earlier n.front
  pub earlier : n.earlier < i
  pub most : (k : ℕ) (e : List Step) → k < i → slice_get F k ≡ Some e → shared is_front.path e ≤ n.front.steps

-- the levels of an outline, each pair in one number
abbrev pub outlined : ℕ → ℕ → List Levels → List ℕ
outlined r d [] = []
outlined r d (l ∷ ls) = if nat_le l.repetition r then (l.repetition * 256 + min l.definition d) ∷ outlined r d ls else outlined r d ls

-- its leaves are among so many
abbrev pub is_within : ℕ → Neighbours → Bool
is_within n x = nat_lt x.leaf n && nat_lt x.earlier n

abbrev pub AgreeEach : List (List Triplet) → List meant.Neighbours → Type 0
AgreeEach C N = (k : ℕ) (n : meant.Neighbours) → slice_get N k ≡ Some n → meant.Agree C n

abbrev pub SomeDisagree : List (List Triplet) → List meant.Neighbours → Type 0
SomeDisagree C N = (k : ℕ) × (n : meant.Neighbours) × (slice_get N k ≡ Some n) × (meant.Agree C n → ⊥)
