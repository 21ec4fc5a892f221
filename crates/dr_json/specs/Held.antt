-- What the parts of a value hold under a schema, each read for itself: a part with a fault holds nothing.
use Rattle.std.specs.Prelude.{Option, Some, None, option_map, Result, Ok, Err}
use Rattle.serde_json.specs.Data.{Data, Items, no_items, item, Members}
use Rattle.serde_json.specs.Find.{get_member, as_array, as_object}
use Rattle.dr_meaning.specs.Schema.{Repetition, required, optional, repeated, Fields, no_fields, field, Shape, leaf, group}
use Rattle.dr_meaning.specs.Record.{Value, Node, no_slots, slot, Instances, no_instances, instance, Instance, atom, inner}
use Rattle.dr_meaning.specs.JsonRecord.{RecordFault, given, leaf_value}

abbrev pub leaf_held : Result Value RecordFault → Option Instance
leaf_held (Ok v) = Some (atom v)
leaf_held (Err e) = None

-- an instance before others; nothing where there is none
abbrev pub before_held : Option Instance → Instances → Instances
before_held None xs = no_instances
before_held (Some x) xs = instance x xs

-- the elements of a list, up to the first that holds nothing
abbrev pub each_held : (Data → Option Instance) → Items → Instances
each_held f no_items = no_instances
each_held f (item d ds) = before_held (f d) (each_held f ds)

abbrev pub list_held : (Data → Option Instance) → Option Items → Instances
list_held f None = no_instances
list_held f (Some ds) = each_held f ds

abbrev pub field_held : Repetition → (Data → Option Instance) → Option Data → Instances
field_held required f None = no_instances
field_held required f (Some d) = before_held (f d) no_instances
field_held optional f None = no_instances
field_held optional f (Some d) = before_held (f d) no_instances
field_held repeated f None = no_instances
field_held repeated f (Some d) = list_held f (as_array d)

abbrev mutual
  -- the node of an object's members
  pub slots_held : Fields → Members → Node
  slots_held no_fields = λ ms. no_slots
  slots_held (field n r s fs) = λ ms. slot (field_held r (instance_held s) (given (get_member n ms))) (slots_held fs ms)

  -- an instance of a leaf or a group
  pub instance_held : Shape → Data → Option Instance
  instance_held (leaf k) = λ d. leaf_held (leaf_value k d)
  instance_held (group fs) = λ d. option_map (λ ms. inner (slots_held fs ms)) (as_object d)

-- the node of a value that is an object
abbrev pub object_held : Fields → Option Members → Node
object_held fs None = no_slots
object_held fs (Some ms) = slots_held fs ms
