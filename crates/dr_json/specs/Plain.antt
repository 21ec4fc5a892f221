-- What a check of a line's own value tells that passes: the data that it stands for is read as what it holds, and of which size that is.
use Rattle.std.specs.Prelude.{◌≡◌, ◌&&◌, Bool, true, false, Option, Some, None, Ok, option_map, ⊤}
use Rattle.json.specs.Json as json
use Rattle.serde_json.specs.Data.{Data, object, Items, Members, no_members}
use Rattle.serde_json.specs.Read.{of_json, of_items, of_members}
use Rattle.dr_meaning.specs.Schema.{Repetition, required, optional, Fields, Shape}
use Rattle.dr_meaning.specs.Record.{Node, Instances, no_instances, Instance, single, fits_repetition, count_instances, all_instances, is_instance, is_record}
use Rattle.dr_meaning.specs.JsonRecord.{then_give, each_element, field_instances, instance_of, record_of_value}
use Rattle.dr_json.specs.declared.size.Size.{Size}
use Rattle.dr_json.specs.Reading.{members_node}
use Rattle.dr_json.specs.Size.{node_size, instances_size, instance_size}
use Rattle.dr_json.specs.Held.{before_held}
use Rattle.dr_json.specs.Raw.{each_raw, field_raw, slots_raw, instance_raw}

-- the data of a value that may be missing
abbrev pub data_of : Option json.Json → Option (Option Data)
data_of None = Some None
data_of (Some j) = option_map (λ d. Some d) (of_json j)

-- a value is read as an instance
abbrev pub ReadsOne : Shape → json.Json → Instance → Type 0
ReadsOne s j x = (d : Data) × (of_json j ≡ Some d) × (instance_of s d ≡ Ok x)

-- what stands for a field is read as instances
abbrev pub ReadsField : Repetition → Shape → Option json.Json → Instances → Type 0
ReadsField r s o xs = (od : Option Data) × (data_of o ≡ Some od) × (field_instances r (instance_of s) od ≡ Ok xs)

-- the elements of a list are read as instances
abbrev pub ReadsItems : Shape → json.Items → Instances → Type 0
ReadsItems s js xs = (ds : Items) × (of_items js ≡ Some ds) × (each_element (instance_of s) ds ≡ Ok xs)

-- the members of an object are read as a node
abbrev pub ReadsNode : Fields → json.Members → Node → Type 0
ReadsNode fs ms n = (found : Members) × (of_members ms no_members ≡ Some found) × (members_node fs found ≡ Ok n)

-- instances of a field of the schema
abbrev pub AreOf : Repetition → Shape → Instances → Type 0
AreOf r s xs = (fits_repetition r (count_instances xs) && all_instances (is_instance s) xs) ≡ true

abbrev pub PlainOne : Shape → json.Json → Option Size → Type 0
PlainOne s j None = ⊤
PlainOne s j (Some size) = (x : Instance) × (instance_raw s j ≡ Some x) × ReadsOne s j x × (is_instance s x ≡ true) × (size ≡ instance_size x)

-- the only instance of a field
abbrev pub PlainOnly : Shape → json.Json → Option Size → Type 0
PlainOnly s j None = ⊤
PlainOnly s j (Some size) =
    ((d : Data) × (of_json j ≡ Some d) × (then_give single (instance_of s d) ≡ Ok (before_held (instance_raw s j) no_instances)))
    × AreOf required s (before_held (instance_raw s j) no_instances) × AreOf optional s (before_held (instance_raw s j) no_instances) × (size ≡ instances_size (before_held (instance_raw s j) no_instances))

abbrev pub PlainField : Repetition → Shape → Option json.Json → Option Size → Type 0
PlainField r s o None = ⊤
PlainField r s o (Some size) = ReadsField r s o (field_raw r (instance_raw s) o) × AreOf r s (field_raw r (instance_raw s) o) × (size ≡ instances_size (field_raw r (instance_raw s) o))

abbrev pub PlainItems : Shape → json.Items → Option Size → Type 0
PlainItems s js None = ⊤
PlainItems s js (Some size) = ReadsItems s js (each_raw (instance_raw s) js) × (all_instances (is_instance s) (each_raw (instance_raw s) js) ≡ true) × (size ≡ instances_size (each_raw (instance_raw s) js))

abbrev pub PlainNode : Fields → json.Members → Option Size → Type 0
PlainNode fs ms None = ⊤
PlainNode fs ms (Some size) = ReadsNode fs ms (slots_raw fs 0 ms) × (is_record fs (slots_raw fs 0 ms) ≡ true) × (size ≡ node_size (slots_raw fs 0 ms))

-- the members of a line's object are a record
abbrev pub PlainRecord : Fields → json.Members → Bool → Type 0
PlainRecord fs ms false = ⊤
PlainRecord fs ms true = (found : Members) × (of_members ms no_members ≡ Some found) × (record_of_value fs (object found) ≡ Ok (slots_raw fs 0 ms)) × (is_record fs (slots_raw fs 0 ms) ≡ true)
