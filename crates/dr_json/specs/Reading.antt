-- Parts of what an object means.
use Rattle.std.specs.Prelude.{Result, Err, if◌then◌else◌}
use Rattle.serde_json.specs.Data.{Members}
use Rattle.dr_meaning.specs.Schema.{Fields, field_names}
use Rattle.dr_meaning.specs.Record.{Node}
use Rattle.dr_meaning.specs.JsonRecord.{RecordFault, unknown_field, are_known, slots_of}

-- the node of an object's members: no unknown keys, then the fields in schema order
abbrev pub members_node : Fields → Members → Result Node RecordFault
members_node fs ms = if are_known (field_names fs) ms then slots_of fs ms else Err unknown_field
