-- Restoring nodes of strips in any order: each field takes those that lead into it.
use Rattle.std.specs.Prelude.{ℕ, zero, suc, ◌+◌, List, [], ◌∷◌, if◌then◌else◌, Option, Some, None, option_map}
use Rattle.dr_meaning.specs.Schema.{Fields, no_fields, field, Shape, leaf, group, repetition_count, definition_count}
use Rattle.dr_meaning.specs.Path.{Step}
use Rattle.dr_meaning.specs.Record.{Node, no_slots, Instance, inner}
use Rattle.dr_meaning.specs.Column.{Triplet}
use Rattle.dr_assemble.specs.Restoring.{Strip, strip, slot_before, restored_slot, restored_atom, restored_each, has_rows}

-- ---- the strips of a group's fields

-- the strips of the leaves in the first field of a group
abbrev pub here_if : ℕ → List Step → List Triplet → List Strip → List Strip
here_if zero p ts S = strip p ts ∷ S
here_if (suc i) p ts S = S

abbrev pub here_strip : List Step → List Triplet → List Strip → List Strip
here_strip [] ts S = S
here_strip (s ∷ p) ts S = here_if s.place p ts S

abbrev pub strips_here : List Strip → List Strip
strips_here [] = []
strips_here (g ∷ S) = here_strip g.rest g.triplets (strips_here S)

-- the strips of the leaves in later fields, as the rest of the group counts its fields
abbrev pub there_if : ℕ → Step → List Step → List Triplet → List Strip → List Strip
there_if zero s p ts S = S
there_if (suc i) s p ts S = strip (record { place = i; repetition = s.repetition } ∷ p) ts ∷ S

abbrev pub there_strip : List Step → List Triplet → List Strip → List Strip
there_strip [] ts S = S
there_strip (s ∷ p) ts S = there_if s.place s p ts S

abbrev pub strips_there : List Strip → List Strip
strips_there [] = []
strips_there (g ∷ S) = there_strip g.rest g.triplets (strips_there S)

abbrev mutual
  -- a node of a group, below this many repeated fields, with this definition level; none where a leaf's value is missing or of another kind
  pub restored : Fields → ℕ → ℕ → List Strip → Option Node
  restored no_fields l d S = Some no_slots
  restored (field m r s fs) l d S =
      slot_before (restored_slot r (restored_one s (l + repetition_count r) (d + definition_count r)) (l + repetition_count r) d (strips_here S))
      (restored fs l d (strips_there S))

  pub restored_one : Shape → ℕ → ℕ → List Strip → Option Instance
  restored_one (leaf k) l d S = restored_atom k S
  restored_one (group fs) l d S = option_map inner (restored fs l d S)

-- so many nodes of whole columns
abbrev pub restored_records : Fields → ℕ → List Strip → Option (List Node)
restored_records fs rows S = if has_rows rows S then restored_each (restored fs 0 0) 0 rows S else None
