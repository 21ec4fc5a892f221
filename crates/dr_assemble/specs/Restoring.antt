-- Restoring nodes of the triplets of their leaves, which are those of records.
use Rattle.std.specs.Prelude.{ℕ, zero, suc, ◌+◌, List, [], ◌∷◌, map, Bool, true, ◌==◌}
use Rattle.std.specs.Prelude.{nat_lt, if◌then◌else◌, get_or, Option, Some, None, option_map, option_and_then}
use Rattle.dr_meaning.specs.Schema.{Repetition, required, optional, repeated, Kind, Fields, no_fields}
use Rattle.dr_meaning.specs.Schema.{field, Shape, leaf, group, repetition_count, definition_count}
use Rattle.dr_meaning.specs.Path.{Step}
use Rattle.dr_meaning.specs.Record.{Value, Node, no_slots, slot, gap, Instances, Instance, atom, inner, is_of_kind}
use Rattle.dr_meaning.specs.Column.{Triplet}
use Rattle.dr_nested.specs.Views.{instances_of}

-- the triplets of a leaf in an instance of a group, and the rest of the leaf's path from that group
pub record Strip : Type 0 where
  pub rest : List Step
  pub triplets : List Triplet

abbrev pub strip : List Step → List Triplet → Strip
strip p ts = record { rest = p; triplets = ts }

-- the paths and the triplets of strips
abbrev pub rests : List Strip → List (List Step)
rests S = map (λ (g : Strip). g.rest) S

abbrev pub columns_of : List Strip → List (List Triplet)
columns_of S = map (λ (g : Strip). g.triplets) S

-- ---- the strips of a group's fields, which come field after field

-- without the step into the field
abbrev pub behind_step : List Step → List Step
behind_step [] = []
behind_step (s ∷ p) = p

abbrev pub without_step : Strip → Strip
without_step g = strip (behind_step g.rest) g.triplets

-- the strips at the front that lead into the field at a place, without that step
abbrev pub front_if : ℕ → List Step → List Triplet → List Strip → List Strip
front_if k [] ts T = []
front_if k (s ∷ p) ts T = if s.place == k then strip p ts ∷ T else []

abbrev pub front_at : ℕ → List Strip → List Strip
front_at k [] = []
front_at k (g ∷ S) = front_if k g.rest g.triplets (front_at k S)

-- and those behind them
abbrev pub after_if : ℕ → List Step → List Strip → List Strip → List Strip
after_if k [] T S = S
after_if k (s ∷ p) T S = if s.place == k then T else S

abbrev pub after_front : ℕ → List Strip → List Strip
after_front k [] = []
after_front k (g ∷ S) = after_if k g.rest (after_front k S) (g ∷ S)

-- ---- the pieces of a strip: each begins where the strip does or at a repetition level of at most l

-- up to the next repetition level of at most l; and from there
abbrev pub above : ℕ → List Triplet → List Triplet
above l [] = []
above l (t ∷ ts) = if nat_lt l t.repetition then t ∷ above l ts else []

abbrev pub from_below : ℕ → List Triplet → List Triplet
from_below l [] = []
from_below l (t ∷ ts) = if nat_lt l t.repetition then from_below l ts else t ∷ ts

-- the first piece, and what is behind it
abbrev pub first_piece : ℕ → List Triplet → List Triplet
first_piece l [] = []
first_piece l (t ∷ ts) = t ∷ above l ts

abbrev pub later_pieces : ℕ → List Triplet → List Triplet
later_pieces l [] = []
later_pieces l (t ∷ ts) = from_below l ts

-- how many there are
abbrev pub count_below : ℕ → List Triplet → ℕ
count_below l [] = 0
count_below l (t ∷ ts) = if nat_lt l t.repetition then count_below l ts else suc (count_below l ts)

abbrev pub count_pieces : ℕ → List Triplet → ℕ
count_pieces l [] = 0
count_pieces l (t ∷ ts) = suc (count_below l ts)

-- of each strip the first piece, and what is behind it
abbrev pub first_pieces : ℕ → List Strip → List Strip
first_pieces l S = map (λ (g : Strip). strip g.rest (first_piece l g.triplets)) S

abbrev pub other_pieces : ℕ → List Strip → List Strip
other_pieces l S = map (λ (g : Strip). strip g.rest (later_pieces l g.triplets)) S

-- ---- restoring

abbrev pub before : {A : Type 0} → Option A → Option (List A) → Option (List A)
before None xs = None
before (Some x) None = None
before (Some x) (Some xs) = Some (x ∷ xs)

-- so many, one after another, each of the first pieces of what the earlier ones left
abbrev pub restored_each : {A : Type 0} → (List Strip → Option A) → ℕ → ℕ → List Strip → Option (List A)
restored_each f l zero S = Some []
restored_each f l (suc n) S = before (f (first_pieces l S)) (restored_each f l n (other_pieces l S))

-- the first definition level
abbrev pub first_definition : List Triplet → ℕ
first_definition [] = 0
first_definition (t ∷ ts) = t.definition

-- where the first definition level isn't above that of the field's group, the field is absent
abbrev pub unless_absent : ℕ → List Triplet → Option (List Instance) → Option (List Instance)
unless_absent d ts xs = if nat_lt d (first_definition ts) then xs else Some []

-- a field's instances, in a group with the definition level d; l is the level of the field's instances; ts are the first strip's triplets
abbrev pub restored_instances : Repetition → (List Strip → Option Instance) → ℕ → ℕ → List Triplet → List Strip → Option (List Instance)
restored_instances required f l d ts S = option_map (λ x. x ∷ []) (f S)
restored_instances optional f l d ts S = unless_absent d ts (option_map (λ x. x ∷ []) (f S))
restored_instances repeated f l d ts S = unless_absent d ts (restored_each f l (count_pieces l ts) S)

-- a field's place in a node: a gap where no strip leads into it
abbrev pub restored_slot : Repetition → (List Strip → Option Instance) → ℕ → ℕ → List Strip → Option (Option Instances)
restored_slot r f l d [] = Some None
restored_slot r f l d (g ∷ S) = option_map (λ xs. Some (instances_of xs)) (restored_instances r f l d g.triplets (g ∷ S))

abbrev pub onto_node : Option Instances → Node → Node
onto_node None n = gap n
onto_node (Some xs) n = slot xs n

abbrev pub slot_before : Option (Option Instances) → Option Node → Option Node
slot_before None n = None
slot_before (Some o) None = None
slot_before (Some o) (Some n) = Some (onto_node o n)

abbrev pub first_value : List Triplet → Option Value
first_value [] = None
first_value (t ∷ ts) = t.value

abbrev pub first_strip_value : List Strip → Option Value
first_strip_value [] = None
first_strip_value (g ∷ S) = first_value g.triplets

-- a value of the leaf's kind
abbrev pub atom_of : Kind → Value → Option Instance
atom_of k v = if is_of_kind k v then Some (atom v) else None

-- the first strip's first value, where it is of the leaf's kind
abbrev pub restored_atom : Kind → List Strip → Option Instance
restored_atom k S = option_and_then (atom_of k) (first_strip_value S)

abbrev mutual
  -- a node of a group, from the field at place i on, below l repeated fields, with definition level d; none where a leaf's value is missing or of another kind
  pub assembled : Fields → ℕ → ℕ → ℕ → List Strip → Option Node
  assembled no_fields i l d S = Some no_slots
  assembled (field m r s fs) i l d S =
      slot_before (restored_slot r (assembled_one s (l + repetition_count r) (d + definition_count r)) (l + repetition_count r) d (front_at i S))
      (assembled fs (suc i) l d (after_front i S))

  pub assembled_one : Shape → ℕ → ℕ → List Strip → Option Instance
  assembled_one (leaf k) l d S = restored_atom k S
  assembled_one (group fs) l d S = option_map inner (assembled fs 0 l d S)

-- a field's instances, in a group below l repeated fields with the definition level d; ts are the first strip's triplets
abbrev pub field_instances : Repetition → Shape → ℕ → ℕ → List Triplet → List Strip → Option (List Instance)
field_instances r s l d ts S = restored_instances r (assembled_one s (l + repetition_count r) (d + definition_count r)) (l + repetition_count r) d ts S

-- a field's place in a node, in a group below l repeated fields with the definition level d
abbrev pub assembled_field : Repetition → Shape → ℕ → ℕ → List Strip → Option (Option Instances)
assembled_field r s l d S = restored_slot r (assembled_one s (l + repetition_count r) (d + definition_count r)) (l + repetition_count r) d S

-- the first strip has as many pieces as there are rows
abbrev pub has_rows : ℕ → List Strip → Bool
has_rows rows [] = true
has_rows rows (g ∷ S) = count_pieces 0 g.triplets == rows

-- so many nodes of whole columns
abbrev pub assembled_records : Fields → ℕ → List Strip → Option (List Node)
assembled_records fs rows S = if has_rows rows S then restored_each (assembled fs 0 0 0) 0 rows S else None

-- ---- whole columns

-- each leaf's path with its column
abbrev pub strips : List (List Step) → List (List Triplet) → List Strip
strips [] C = []
strips (p ∷ F) [] = []
strips (p ∷ F) (ts ∷ C) = strip p ts ∷ strips F C

-- of the leaves at these places
abbrev pub strips_at : List ℕ → List (List Step) → List (List Triplet) → List Strip
strips_at is F C = map (λ i. strip (get_or F i []) (get_or C i [])) is
