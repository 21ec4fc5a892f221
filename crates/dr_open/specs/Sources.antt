-- Where the column of a leaf is in a file, in the list of its schema elements: the group that lacks a part of the leaf's path, and the leaf that stands in there.
use Rattle.std.specs.Prelude.{◌≡◌, ℕ, zero, suc, ◌-◌, List, [], ◌∷◌, ◌++◌, map, take, ◌&&◌, if◌then◌else◌, Option, Some, None, option_map, option_and_then}
use Rattle.dr_meaning.specs.Schema.{Repetition, Fields, no_fields, field, Shape, leaf, group, is_short_name, greatest_depth}
use Rattle.dr_meaning.specs.Path.{Step, Leaf, same_repetition, leaf_below, max_repetition, max_definition}
use Rattle.dr_formats.specs.Metadata.{SchemaElement}
use Rattle.dr_formats.specs.FileSchema.{FileFields, FileShape, file_leaf, file_group, FieldsRead, ShapeRead, FileSchema, open_fields, repetition_from}
use Rattle.dr_formats.specs.Lacking.{FileField, field_named, unless_required, Source, no_chunks, chunks_of, source_in}
use Rattle.dr_open.specs.Places.{next_fields, shape_from}

-- ---- the group that lacks a part

-- a group that lacks a part of a path: how many parts lead to it, and its fields
pub record LackingGroup : Type 0 where
  pub parts : ℕ
  pub fields : FileFields

abbrev pub lacking_here : FileFields → Repetition → Option LackingGroup
lacking_here fs r = option_map (λ k. record { parts = k; fields = fs }) (unless_required r)

abbrev pub one_further : LackingGroup → LackingGroup
one_further g = record { parts = suc g.parts; fields = g.fields }

abbrev pub group_below : (FileFields → Option LackingGroup) → FileShape → Option LackingGroup
group_below further (file_leaf t c) = None
group_below further (file_group fs) = option_map one_further (further fs)

abbrev pub group_at : List ℕ → Repetition → (FileFields → Option LackingGroup) → FileFields → Option FileField → Option LackingGroup
group_at n r further fs None = lacking_here fs r
group_at n r further fs (Some f) = if is_short_name n && same_repetition r f.repetition then group_below further f.shape else None

-- the group that lacks a part of a path, where it may, and the way to it is open: each name on it has the right form
abbrev pub lacking_group : List (List ℕ) → List Step → FileFields → Option LackingGroup
lacking_group [] p fs = None
lacking_group (n ∷ ns) [] fs = None
lacking_group (n ∷ ns) (s ∷ p) fs = group_at n s.repetition (lacking_group ns p) fs (field_named n fs)

-- ---- the same in the list of elements

-- the first field of this name among the next n fields
abbrev pub first_named : List ℕ → ℕ → List SchemaElement → Option FileField
first_named m n es = option_and_then (λ (f : FieldsRead). field_named m f.fields) (next_fields n es)

abbrev pub file_field_of : Repetition → ShapeRead → FileField
file_field_of r s = record { repetition = r; shape = s.shape }

-- the field that an element begins
abbrev pub field_from : SchemaElement → List SchemaElement → Option FileField
field_from e es = option_and_then (λ (r : Repetition). option_map (file_field_of r) (shape_from e es)) (repetition_from e.repetition)

-- the group that lacks a part of a path, where the next n fields are those of a group that the path leads to
abbrev pub lacking_among : List (List ℕ) → List Step → ℕ → List SchemaElement → Option LackingGroup
lacking_among ns p n es = option_and_then (λ (f : FieldsRead). lacking_group ns p f.fields) (next_fields n es)

-- it is the one with so many parts before it, of whose fields so many elements tell
abbrev pub IsLackingGroup : ℕ → ℕ → List SchemaElement → Option LackingGroup → Type 0
IsLackingGroup parts fields elements g = (f : FieldsRead) × (next_fields fields elements ≡ Some f) × (g ≡ Some (record { parts = parts; fields = f.fields }))

-- ---- the leaf that stands in

abbrev mutual
  -- the first leaf of fields, where none of them is an empty group
  pub first_leaf : Fields → Option Leaf
  first_leaf no_fields = None
  first_leaf (field n r s fs) = option_map (leaf_below n (record { place = 0; repetition = r })) (first_of_shape s)

  pub first_of_shape : Shape → Option Leaf
  first_of_shape (leaf k) = Some (record { names = []; path = []; kind = k })
  first_of_shape (group fs) = first_leaf fs

-- a leaf of a group to which these names and steps lead
abbrev pub behind_path : List (List ℕ) → List Step → Leaf → Leaf
behind_path ns p l = record { names = ns ++ l.names; path = p ++ l.path; kind = l.kind }

-- the first leaf of the fields of a group to which these names and steps lead
abbrev pub first_leaf_at : List (List ℕ) → List Step → Fields → Option Leaf
first_leaf_at ns p fs = option_map (behind_path ns p) (first_leaf fs)

-- a step of which the repetition alone matters
abbrev pub bare_step : Step → Step
bare_step s = record { place = 0; repetition = s.repetition }

-- the first open leaf of fields, with at most so many parts on its path
abbrev pub first_opened : ℕ → FileFields → Option Leaf
first_opened d fs = first_leaf (open_fields [] d fs 1).fields

-- a leaf that stands in for another one, of whose path so many parts lead to the group of both
abbrev pub stand_in_at : Leaf → ℕ → Leaf → Source
stand_in_at l k m = chunks_of (record {
  leaf = behind_path (take k l.names) (map bare_step (take k l.path)) m;
  repetition = max_repetition (take k l.path);
  definition = max_definition (take k l.path);
})

-- the source of a leaf of which a group lacks a part
abbrev pub source_by : Leaf → ℕ → FileFields → Option Source
source_by l zero fs = Some no_chunks
source_by l (suc k) fs = option_map (stand_in_at l (suc k)) (first_opened (greatest_depth - suc k) fs)

abbrev pub source_of_group : Leaf → LackingGroup → Option Source
source_of_group l g = source_by l g.parts g.fields

-- ---- sources

-- the group of a file that lacks a part of a leaf's path, where the file has a schema
abbrev pub lacking_in_file : Leaf → Option FileSchema → Option LackingGroup
lacking_in_file l s = option_and_then (λ (s : FileSchema). lacking_group l.names l.path s.fields) s

-- the source of a leaf in a file, where it has a schema
abbrev pub source_in_file : Leaf → Option FileSchema → Option Source
source_in_file l s = option_and_then (λ (s : FileSchema). source_in s l) s
