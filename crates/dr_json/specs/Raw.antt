-- What the parts of a line's own value hold under a schema, each read for itself: a part with a fault holds nothing.
use Rattle.std.specs.Prelude.{◌≡◌, ℕ, zero, suc, List, IsUtf8, Option, Some, None, cond, if◌then◌else◌, ℤ, Bool, bytes_eq, option_map, option_and_then}
use Rattle.json.specs.Lex.{tokens}
use Rattle.json.specs.Json.{Json, Items, no_items, item, Members, no_members, member, value, if_last}
use Rattle.json.specs.Find.{later_or, get_member, is_null, as_array, as_object}
use Rattle.serde_json.specs.Read.{max_depth, of_json}
use Rattle.dr_meaning.specs.Schema.{Repetition, required, optional, repeated, Kind, Fields, no_fields, field, Shape, leaf, group}
use Rattle.dr_meaning.specs.Record.{Node, no_slots, slot, Instances, no_instances, Instance, inner}
use Rattle.dr_meaning.specs.JsonRecord.{leaf_value}
use Rattle.dr_json.specs.Held.{leaf_held, before_held}

-- the bytes are a text, and that is this value
abbrev pub IsLineOf : List ℕ → Json → Type 0
IsLineOf line j = IsUtf8 line × (option_and_then (λ p. if_last p.0 p.1) (value max_depth (tokens line)) ≡ Some j)

-- ---- the members of an object

-- the member at a place, where it has that name
abbrev pub named_at : ℕ → List ℕ → Members → Option Json
named_at p n no_members = None
named_at zero n (member k j ms) = cond (bytes_eq k n) (Some j) None
named_at (suc p) n (member k j ms) = named_at p n ms

-- the member at a place, where it has that name, and else the last of that name
abbrev pub near : ℕ → List ℕ → Members → Option Json
near p n ms = later_or (named_at p n ms) (get_member n ms)

-- what stands for a field: nothing, where its key is missing or its value is null
abbrev pub present : Option Json → Option Json
present None = None
present (Some j) = if is_null j then None else Some j

-- ---- what parts hold

-- the number that fits, or none
abbrev pub where_fits : (ℤ → Bool) → Option ℤ → Option ℤ
where_fits fits None = None
where_fits fits (Some z) = if fits z then Some z else None

abbrev pub leaf_raw : Kind → Json → Option Instance
leaf_raw k j = option_and_then (λ d. leaf_held (leaf_value k d)) (of_json j)

-- the elements of a list, up to the first that holds nothing
abbrev pub each_raw : (Json → Option Instance) → Items → Instances
each_raw f no_items = no_instances
each_raw f (item j js) = before_held (f j) (each_raw f js)

abbrev pub list_raw : (Json → Option Instance) → Option Items → Instances
list_raw f None = no_instances
list_raw f (Some js) = each_raw f js

abbrev pub field_raw : Repetition → (Json → Option Instance) → Option Json → Instances
field_raw required f None = no_instances
field_raw required f (Some j) = before_held (f j) no_instances
field_raw optional f None = no_instances
field_raw optional f (Some j) = before_held (f j) no_instances
field_raw repeated f None = no_instances
field_raw repeated f (Some j) = list_raw f (as_array j)

abbrev mutual
  -- the node of an object's members, from the field of this place on: each is looked for at its place first
  pub slots_raw : Fields → ℕ → Members → Node
  slots_raw no_fields = λ p ms. no_slots
  slots_raw (field n r s fs) = λ p ms. slot (field_raw r (instance_raw s) (present (near p n ms))) (slots_raw fs (suc p) ms)

  -- an instance of a leaf or a group
  pub instance_raw : Shape → Json → Option Instance
  instance_raw (leaf k) = λ j. leaf_raw k j
  instance_raw (group fs) = λ j. option_map (λ ms. inner (slots_raw fs 0 ms)) (as_object j)
