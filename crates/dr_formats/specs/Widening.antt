-- Wider schemas, and the same records under them: what the laws of older files speak of.
use Rattle.std.specs.Prelude.{ℕ, suc, List, Bool, true, false, ◌&&◌, ◌||◌, if◌then◌else◌, bytes_eq, Option, Some, None}
use Rattle.dr_meaning.specs.Schema.{Repetition, required, optional, repeated, Fields, no_fields, field, Shape, leaf, group, same_kind}
use Rattle.dr_meaning.specs.Path.{same_repetition}
use Rattle.dr_meaning.specs.Record.{Node, no_slots, slot, Instances, no_instances, instance, Instance, atom, inner, instances_at}

-- a field of a group, at its place
pub record PlacedField : Type 0 where
  pub place : ℕ
  pub repetition : Repetition
  pub shape : Shape

-- the field of this name, where the first field has the place i
abbrev pub placed_field : List ℕ → ℕ → Fields → Option PlacedField
placed_field n i no_fields = None
placed_field n i (field m r s fs) = if bytes_eq n m then Some (record { place = i; repetition = r; shape = s }) else placed_field n (suc i) fs

-- ---- wider schemas: fields stand in any order

-- whether a field may be added
abbrev pub may_be_added : Repetition → Bool
may_be_added required = false
may_be_added optional = true
may_be_added repeated = true

-- whether there is a field
abbrev pub is_there : Option PlacedField → Bool
is_there None = false
is_there (Some f) = true

-- whether each field of a group that another one lacks may be added to that
abbrev pub may_all_be_added : Fields → Fields → Bool
may_all_be_added fs no_fields = true
may_all_be_added fs (field n r s gs) = (is_there (placed_field n 0 fs) || may_be_added r) && may_all_be_added fs gs

-- whether a field is there that has this repetition, and a shape that passes
abbrev pub has_field : Repetition → (Shape → Bool) → Option PlacedField → Bool
has_field r passes None = false
has_field r passes (Some f) = same_repetition f.repetition r && passes f.shape

abbrev mutual
  -- whether fields have others among them: by the same names, with the same repetitions, leaves of the same kinds, and groups as wide or wider
  pub has_fields : Fields → Fields → Bool
  has_fields gs no_fields = true
  has_fields gs (field n r s fs) = has_field r (has_shape s) (placed_field n 0 gs) && has_fields gs fs

  -- whether a shape, the second one, is this one or a wider one
  pub has_shape : Shape → Shape → Bool
  has_shape (leaf k) (leaf j) = same_kind k j
  has_shape (leaf k) (group gs) = false
  has_shape (group fs) (leaf j) = false
  has_shape (group fs) (group gs) = has_fields gs fs && may_all_be_added fs gs

-- whether fields, the second ones, are as wide as others or wider
abbrev pub is_wider : Fields → Fields → Bool
is_wider fs gs = has_fields gs fs && may_all_be_added fs gs

-- ---- the same records

-- of each of some instances another one
abbrev pub of_instances : (Instance → Instance) → Instances → Instances
of_instances f no_instances = no_instances
of_instances f (instance x xs) = instance (f x) (of_instances f xs)

-- the instances of a field, each made wider by its shape; none of one that isn't there
abbrev pub widened_field : (Shape → Instance → Instance) → Option PlacedField → Node → Instances
widened_field wider None n = no_instances
widened_field wider (Some f) n = of_instances (wider f.shape) (instances_at f.place n)

abbrev mutual
  -- a record of the first fields as one of the second ones: fields by their names, those that are new absent
  pub widened : Fields → Fields → Node → Node
  widened fs no_fields n = no_slots
  widened fs (field m r s gs) n = slot (widened_field (widened_instance s) (placed_field m 0 fs) n) (widened fs gs n)

  -- an instance of a shape, the second one, as one of a wider one
  pub widened_instance : Shape → Shape → Instance → Instance
  widened_instance (leaf k) t x = x
  widened_instance (group gs) (leaf j) x = x
  widened_instance (group gs) (group fs) (atom v) = atom v
  widened_instance (group gs) (group fs) (inner n) = inner (widened fs gs n)
