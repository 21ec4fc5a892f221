-- What the value of a line is.
use Rattle.std.specs.Prelude.{Bool, true, is_some}
use Rattle.json.specs.Value as raw
use Rattle.serde_json.specs.Find.{as_object}
use Rattle.serde_json.specs.View.{view}
use Rattle.dr_meaning.specs.Schema.{Fields}
use Rattle.dr_meaning.specs.Record.{is_record}
use Rattle.dr_json.specs.declared.record.LineValue.{LineValue}
use Rattle.dr_json.specs.Raw.{slots_raw}

abbrev pub is_object : LineValue → Bool
is_object (LineValue.Read v) = is_some (as_object (view v))
is_object (LineValue.Raw ms) = true

-- the members that the line has are a record of the schema
abbrev pub is_formed : Fields → LineValue → Bool
is_formed fs (LineValue.Read v) = true
is_formed fs (LineValue.Raw ms) = is_record fs (slots_raw fs 0 (raw.members_view ms.items))
