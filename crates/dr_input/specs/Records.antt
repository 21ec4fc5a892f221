-- What a reader of records holds.
use Rattle.std.specs.Prelude.{ℕ, List, Option}
use Rattle.dr_meaning.specs.Schema.{Fields}
use Rattle.dr_nested.specs.Views.{fields_view}
use Rattle.dr_lines.specs.Cutting.{rest_of}
use Rattle.dr_input.specs.declared.fault.InputFault.{InputFault}
use Rattle.dr_input.specs.declared.reader.LineReader.{LineReader}
use Rattle.dr_input.specs.declared.reader.Records.{Records}

-- the fields of the schema whose records it reads
abbrev pub fields_read : LineReader → Fields
fields_read r = fields_view r.schema.now.fields.items

abbrev pub fields_of : Records → Fields
fields_of r = fields_read r.reader

-- the greatest number of lines
abbrev pub most_of : Records → ℕ
most_of r = r.most

-- how many lines it has read
abbrev pub number_of : Records → ℕ
number_of r = r.number

-- the fault that it repeats
abbrev pub fault_of : Records → Option InputFault
fault_of r = r.stopped

-- what is left of the input: what it has read ahead, and what the source has left, where it tells
abbrev pub left_of : Records → Option (List ℕ) → Option (List ℕ)
left_of r left = rest_of r.lines left
