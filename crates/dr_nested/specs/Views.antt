-- What the types of this crate stand for, in the definitions' words.
use Rattle.std.specs.Prelude.{ℕ, List, [], ◌∷◌, map, string_bytes, Option, Some, None}
use denote.Ref.{Bor}
use Rattle.dr_meaning.specs.Schema as tree
use Rattle.dr_meaning.specs.Record as record_tree
use Rattle.dr_nested.specs.declared.shape.Rep.{Rep}
use Rattle.dr_nested.specs.declared.shape.Kind.{Kind}
use Rattle.dr_nested.specs.declared.shape.Shape.{Shape, fold-Shape}
use Rattle.dr_nested.specs.declared.shape.Shape.TheOpen.{Shape-F, Field-F}
use Rattle.dr_nested.specs.declared.shape.Field.{Field, fold-Field}
use Rattle.dr_nested.specs.declared.record.Value.{Value}
use Rattle.dr_nested.specs.declared.record.Instance.{Instance, fold-Instance}
use Rattle.dr_nested.specs.declared.record.Instance.TheOpen.{Instance-F, Slot-F, Node-F}
use Rattle.dr_nested.specs.declared.record.Slot.{Slot, fold-Slot}
use Rattle.dr_nested.specs.declared.record.Node.{Node, fold-Node}

abbrev pub rep_view : Rep → tree.Repetition
rep_view Rep.Required = tree.required
rep_view Rep.Optional = tree.optional
rep_view Rep.Repeated = tree.repeated

abbrev pub kind_view : Kind → tree.Kind
kind_view Kind.Bool = tree.bool_kind
kind_view Kind.I32 = tree.int32_kind
kind_view Kind.I64 = tree.int64_kind
kind_view Kind.Text = tree.text_kind

-- a field whose shape has been seen
pub record SeenField : Type 0 where
  pub name : List ℕ
  pub repetition : tree.Repetition
  pub shape : tree.Shape

abbrev pub fields_of : List SeenField → tree.Fields
fields_of [] = tree.no_fields
fields_of (f ∷ fs) = tree.field f.name f.repetition f.shape (fields_of fs)

-- one level, with what is inside already seen
abbrev pub shape_step : Shape-F tree.Shape SeenField → tree.Shape
shape_step (Shape-F.Leaf k) = tree.leaf (kind_view k)
shape_step (Shape-F.Group fs) = tree.group (fields_of fs.items)

abbrev pub field_step : Field-F tree.Shape SeenField → SeenField
field_step f = record { name = string_bytes f.name; repetition = rep_view f.rep; shape = f.shape }

abbrev pub shape_view : Shape → tree.Shape
shape_view = fold-Shape tree.Shape SeenField shape_step field_step

abbrev pub field_view : Field → SeenField
field_view = fold-Field tree.Shape SeenField shape_step field_step

abbrev pub fields_view : List Field → tree.Fields
fields_view fs = fields_of (map field_view fs)

-- ---- records

abbrev pub value_view : Value → record_tree.Value
value_view (Value.Bool b) = record_tree.bool_value b
value_view (Value.Int z) = record_tree.int_value z
value_view (Value.Text s) = record_tree.text_value (string_bytes s)

-- a value that is lent
abbrev pub lent_value : Bor Value → record_tree.Value
lent_value v = value_view v.now

-- a slot whose instances have been seen; a gap is none
abbrev pub slots_of : List (Option record_tree.Instances) → record_tree.Node
slots_of [] = record_tree.no_slots
slots_of (None ∷ ss) = record_tree.gap (slots_of ss)
slots_of (Some xs ∷ ss) = record_tree.slot xs (slots_of ss)

abbrev pub instances_of : List record_tree.Instance → record_tree.Instances
instances_of [] = record_tree.no_instances
instances_of (x ∷ xs) = record_tree.instance x (instances_of xs)

abbrev pub instance_step : Instance-F record_tree.Instance (Option record_tree.Instances) record_tree.Node → record_tree.Instance
instance_step (Instance-F.Atom v) = record_tree.atom (value_view v)
instance_step (Instance-F.Group n) = record_tree.inner n

abbrev pub slot_step : Slot-F record_tree.Instance (Option record_tree.Instances) record_tree.Node → Option record_tree.Instances
slot_step Slot-F.Gap = None
slot_step (Slot-F.Held xs) = Some (instances_of xs.items)

abbrev pub node_step : Node-F record_tree.Instance (Option record_tree.Instances) record_tree.Node → record_tree.Node
node_step n = slots_of n.slots.items

abbrev pub instance_view : Instance → record_tree.Instance
instance_view = fold-Instance record_tree.Instance (Option record_tree.Instances) record_tree.Node instance_step slot_step node_step

abbrev pub slot_view : Slot → Option record_tree.Instances
slot_view = fold-Slot record_tree.Instance (Option record_tree.Instances) record_tree.Node instance_step slot_step node_step

abbrev pub node_view : Node → record_tree.Node
node_view = fold-Node record_tree.Instance (Option record_tree.Instances) record_tree.Node instance_step slot_step node_step

abbrev pub instances_view : List Instance → record_tree.Instances
instances_view xs = instances_of (map instance_view xs)

abbrev pub slots_view : List Slot → record_tree.Node
slots_view ss = slots_of (map slot_view ss)
