-- What the lent parts of a value stand for.
use Rattle.json.specs.Value as raw
use Rattle.serde_json.specs.Find.{as_object}
use Rattle.serde_json.specs.View.{view, items_view, members_view}
use Rattle.dr_meaning.specs.Schema.{Fields}
use Rattle.dr_meaning.specs.Record.{Node, Instances, no_instances, Instance, atom, inner}
use Rattle.dr_nested.specs.Views.{fields_view, shape_view}
use Rattle.dr_levels.specs.Views.{lent_value}
use Rattle.dr_json.specs.declared.part.Part.{Part}
use Rattle.dr_json.specs.declared.part.Parts.{Parts}
use Rattle.dr_json.specs.declared.raw_held.RawPart.{RawPart}
use Rattle.dr_json.specs.declared.raw_held.RawParts.{RawParts}
use Rattle.dr_json.specs.declared.record.LineValue.{LineValue}
use Rattle.dr_json.specs.declared.record.LineRecord.{LineRecord}
use Rattle.dr_json.specs.Held.{each_held, slots_held, instance_held, object_held}
use Rattle.dr_json.specs.Raw.{each_raw, slots_raw, instance_raw}

abbrev pub part_view : Part → Instance
part_view (Part.Leaf v) = atom (lent_value v)
part_view (Part.Group fs o) = inner (slots_held (fields_view fs.now) (members_view o.now.entries))

abbrev pub parts_view : Parts → Instances
parts_view Parts.Nothing = no_instances
parts_view (Parts.Items s vs) = each_held (instance_held (shape_view s.now)) (items_view vs.now)

-- the same of a line's own values
abbrev pub raw_part_view : RawPart → Instance
raw_part_view (RawPart.Leaf v) = atom (lent_value v)
raw_part_view (RawPart.Group fs ms) = inner (slots_raw (fields_view fs.now) 0 (raw.members_view ms.now))

abbrev pub raw_parts_view : RawParts → Instances
raw_parts_view RawParts.Nothing = no_instances
raw_parts_view (RawParts.Items s vs) = each_raw (instance_raw (shape_view s.now)) (raw.items_view vs.now)

-- the fields of the schema by which a line is a record
abbrev pub line_fields : LineRecord → Fields
line_fields r = fields_view r.schema.now.fields.items

-- the node of a line's value
abbrev pub value_node : Fields → LineValue → Node
value_node fs (LineValue.Read v) = object_held fs (as_object (view v))
value_node fs (LineValue.Raw ms) = slots_raw fs 0 (raw.members_view ms.items)

-- the record that was read of a line
abbrev pub line_node : LineRecord → Node
line_node r = value_node (line_fields r) r.value
