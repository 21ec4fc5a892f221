-- The record of a JSON line, or its first fault, over `serde_json`'s own data and its own words for reading.
use Rattle.std.specs.Prelude.{ℕ, ◌^◌, List, Bool, true, false, ◌&&◌, ◌||◌, nat_lt, if◌then◌else◌, ℤ, Option, Some, None, option_and_then, Result, Ok}
use Rattle.std.specs.Prelude.{Err, bytes_eq}
use Rattle.std.specs.List.{list_any}
use Rattle.std.specs.Str.{is_utf8}
use Rattle.serde_json.specs.Data.{Data, null, boolean, number, string, array, object, Items, no_items, item, Members, no_members, member}
use Rattle.serde_json.specs.Find.{get_member, as_bool, as_str, as_number, as_integer, as_array, as_object}
use Rattle.serde_json.specs.Read.{read}
use Rattle.dr_meaning.specs.Schema.{Repetition, required, optional, repeated, Kind, bool_kind, int32_kind, int64_kind, text_kind, Fields, no_fields}
use Rattle.dr_meaning.specs.Schema.{field, Shape, leaf, group, field_names}
use Rattle.dr_meaning.specs.Record.{Value, bool_value, int_value, text_value, Node, no_slots, slot, Instances, no_instances, instance, Instance, atom}
use Rattle.dr_meaning.specs.Record.{inner, single, in_int32, in_int64, instance_count, text_bytes}

-- why a line is no record
pub data RecordFault : Type 0 where
  -- `serde_json` doesn't read it as a value
  not_json : RecordFault
  -- an object has a key that is no field of its group
  unknown_field : RecordFault
  -- a required field is missing or null
  missing_field : RecordFault
  -- a value is of another kind than its field, or no list where the field is repeated
  wrong_kind : RecordFault
  -- a whole number doesn't fit its field's kind
  out_of_range : RecordFault
  -- an element of a list is null
  null_element : RecordFault
  -- more than 1,048,575 instances of fields, or more than 2^30 bytes of texts
  too_large : RecordFault

-- ---- results in order: the first fault is the answer

abbrev pub after : {A B : Type 0} → (A → Result B RecordFault) → Result A RecordFault → Result B RecordFault
after f (Ok a) = f a
after f (Err e) = Err e

abbrev pub then_give : {A B : Type 0} → (A → B) → Result A RecordFault → Result B RecordFault
then_give f (Ok a) = Ok (f a)
then_give f (Err e) = Err e

-- ---- leaves

abbrev pub of_bool : Option Bool → Result Value RecordFault
of_bool (Some b) = Ok (bool_value b)
of_bool None = Err wrong_kind

abbrev pub of_text : Option (List ℕ) → Result Value RecordFault
of_text (Some t) = Ok (text_value t)
of_text None = Err wrong_kind

abbrev pub of_integer : (ℤ → Bool) → Option ℤ → Result Value RecordFault
of_integer fits (Some z) = if fits z then Ok (int_value z) else Err out_of_range
of_integer fits None = Err wrong_kind

abbrev pub integer_of : Data → Option ℤ
integer_of d = option_and_then as_integer (as_number d)

-- a truth value, a text, or a number that `serde_json` holds as a whole number
abbrev pub leaf_value : Kind → Data → Result Value RecordFault
leaf_value bool_kind d = of_bool (as_bool d)
leaf_value int32_kind d = of_integer in_int32 (integer_of d)
leaf_value int64_kind d = of_integer in_int64 (integer_of d)
leaf_value text_kind d = of_text (as_str d)

-- ---- groups

abbrev pub is_null : Data → Bool
is_null null = true
is_null (boolean b) = false
is_null (number n) = false
is_null (string s) = false
is_null (array ds) = false
is_null (object ms) = false

-- what stands for a field in an object: nothing, where the key is missing or its value is null
abbrev pub given : Option Data → Option Data
given None = None
given (Some d) = if is_null d then None else Some d

-- whether each key is a field's name
abbrev pub are_known : List (List ℕ) → Members → Bool
are_known names no_members = true
are_known names (member k d ms) = list_any (bytes_eq k) names && are_known names ms

-- the elements of a list in order
abbrev pub each_element : (Data → Result Instance RecordFault) → Items → Result Instances RecordFault
each_element f no_items = Ok no_instances
each_element f (item d ds) = if is_null d then Err null_element else after (λ x. then_give (instance x) (each_element f ds)) (f d)

abbrev pub list_elements : (Data → Result Instance RecordFault) → Option Items → Result Instances RecordFault
list_elements f None = Err wrong_kind
list_elements f (Some ds) = each_element f ds

-- required: one instance; optional: at most one; repeated: a list's elements, none where nothing is given
abbrev pub field_instances : Repetition → (Data → Result Instance RecordFault) → Option Data → Result Instances RecordFault
field_instances required f None = Err missing_field
field_instances required f (Some d) = then_give single (f d)
field_instances optional f None = Ok no_instances
field_instances optional f (Some d) = then_give single (f d)
field_instances repeated f None = Ok no_instances
field_instances repeated f (Some d) = list_elements f (as_array d)

-- the node of an object: no unknown keys, then the fields in schema order
abbrev pub object_node : List (List ℕ) → (Members → Result Node RecordFault) → Option Members → Result Instance RecordFault
object_node names f None = Err wrong_kind
object_node names f (Some ms) = if are_known names ms then then_give inner (f ms) else Err unknown_field

abbrev mutual
  -- the slots of a group's fields
  pub slots_of : Fields → Members → Result Node RecordFault
  slots_of no_fields = λ ms. Ok no_slots
  slots_of (field n r s fs) = λ ms. after (λ xs. then_give (slot xs) (slots_of fs ms)) (field_instances r (instance_of s) (given (get_member n ms)))

  -- an instance of a leaf or a group
  pub instance_of : Shape → Data → Result Instance RecordFault
  instance_of (leaf k) = λ d. then_give atom (leaf_value k d)
  instance_of (group fs) = λ d. object_node (field_names fs) (slots_of fs) (as_object d)

-- ---- lines

abbrev pub most_instances : ℕ
most_instances = 1048575

abbrev pub most_text_bytes : ℕ
most_text_bytes = 2 ^ 30

abbrev pub node_within_limits : Node → Result Node RecordFault
node_within_limits n = if nat_lt most_instances (instance_count n) || nat_lt most_text_bytes (text_bytes n) then Err too_large else Ok n

abbrev pub within_limits : Instance → Result Node RecordFault
within_limits (atom v) = Err wrong_kind
within_limits (inner n) = node_within_limits n

abbrev pub record_of_value : Fields → Data → Result Node RecordFault
record_of_value fs d = after within_limits (instance_of (group fs) d)

abbrev pub of_reading : Fields → Option Data → Result Node RecordFault
of_reading fs None = Err not_json
of_reading fs (Some d) = record_of_value fs d

-- the record that a line reads as, or its first fault
unfoldable pub record_of_line : Fields → List ℕ → Result Node RecordFault
record_of_line fs line = if is_utf8 line then of_reading fs (read line) else Err not_json
