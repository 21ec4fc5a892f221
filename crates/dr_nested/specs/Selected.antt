-- What is selected of a node: a tree of the fields on the way to some leaves.
use Rattle.std.specs.Prelude.{◌≡◌, ℕ, zero, suc, List, [], ◌∷◌, Option, Some, None}
use Rattle.dr_meaning.specs.Path.{Step}
use Rattle.dr_meaning.specs.Record.{Node, no_slots, slot, gap, Instances, no_instances, instance, Instance, atom, inner, through_first, through_later}

-- for each field of a group, in order, whether it is selected, and what is selected below it; no field is behind the last
pub data Selected : Type 0 where
  none_selected : Selected
  skipped : Selected → Selected
  chosen : Selected → Selected → Selected

abbrev pub choices_of : List (Option Selected) → Selected
choices_of [] = none_selected
choices_of (None ∷ cs) = skipped (choices_of cs)
choices_of (Some b ∷ cs) = chosen b (choices_of cs)

-- what is selected in the first field, if anything; and of the later ones
abbrev pub first_selected : Selected → Option Selected
first_selected none_selected = None
first_selected (skipped s) = None
first_selected (chosen b s) = Some b

abbrev pub later_selected : Selected → Selected
later_selected none_selected = none_selected
later_selected (skipped s) = s
later_selected (chosen b s) = s

-- what is selected in the field at a place, if anything
abbrev pub selected_at : ℕ → Selected → Option Selected
selected_at zero s = first_selected s
selected_at (suc k) s = selected_at k (later_selected s)

-- ---- of which paths

-- all of the paths end here
abbrev pub AllEnd : List (List Step) → Type 0
AllEnd [] = Unit {0}
AllEnd ([] ∷ F) = AllEnd F
AllEnd ((s ∷ p) ∷ F) = ⊥

abbrev pub IsSome : List (List Step) → Type 0
IsSome [] = ⊥
IsSome (p ∷ F) = Unit {0}

-- exactly the fields on these paths are selected
abbrev pub Selects : Selected → List (List Step) → Type 0
Selects none_selected F = AllEnd F
Selects (skipped s) F = (through_first F ≡ []) × Selects s (through_later F)
Selects (chosen b s) F = IsSome (through_first F) × Selects b (through_first F) × Selects s (through_later F)

-- in a field exactly what is on these paths is selected, which go through it
abbrev pub SelectsFirst : Option Selected → List (List Step) → Type 0
SelectsFirst None F = F ≡ []
SelectsFirst (Some b) F = IsSome F × Selects b F

-- ---- what is kept of a node

abbrev pub kept_or_gap : Option Selected → (Selected → Instances) → Node → Node
kept_or_gap None f n = gap n
kept_or_gap (Some b) f n = slot (f b) n

abbrev mutual
  pub kept : Selected → Node → Node
  kept s no_slots = no_slots
  kept s (slot xs n) = kept_or_gap (first_selected s) (λ b. kept_all b xs) (kept (later_selected s) n)
  kept s (gap n) = gap (kept (later_selected s) n)

  pub kept_all : Selected → Instances → Instances
  kept_all s no_instances = no_instances
  kept_all s (instance x xs) = instance (kept_one s x) (kept_all s xs)

  pub kept_one : Selected → Instance → Instance
  kept_one s (atom v) = atom v
  kept_one s (inner n) = inner (kept s n)

-- a field's instances, or a gap
abbrev pub kept_slot : Option Selected → Option Instances → Option Instances
kept_slot c None = None
kept_slot None (Some xs) = None
kept_slot (Some b) (Some xs) = Some (kept_all b xs)
