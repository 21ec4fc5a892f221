-- What commands refuse, and the lines on standard error that name it.
use Rattle.std.specs.Prelude.{ℕ, List}
use Rattle.dr_meaning.specs.SchemaText.{SchemaFault}
use Rattle.dr_meaning.specs.Path.{PathFault}
use Rattle.dr_meaning.specs.Lines as line
use Rattle.dr_meaning.specs.Refusals as plain
use Rattle.dr_sub_meaning.specs.Session.{SessionRefusal, session_refusal_text}
use Rattle.dr_formats.specs.TableFile.{TableFault}
use Rattle.dr_formats.specs.Loading.{WordsRefusal}
use Rattle.dr_formats.specs.Reports.{table_refusal_text, words_refusal_text}

-- what is refused, in the order in which it is looked at
pub data Refusal : Type 0 where
  schema_refused : SchemaFault → Refusal
  table_refused : TableFault → Refusal
  -- a FIELD, counted from 0
  field_refused : ℕ → PathFault → Refusal
  -- a directory, or the number of copies
  words_refused : WordsRefusal → Refusal
  query_refused : plain.QueryRefusal → Refusal
  line_refused : line.Refusal → Refusal
  -- a line of a session
  session_refused : SessionRefusal → Refusal

-- a refusal of a command without tables
abbrev pub refusal_of : plain.CommandRefusal → Refusal
refusal_of (plain.schema_refused e) = schema_refused e
refusal_of (plain.field_refused n e) = field_refused n e
refusal_of (plain.query_refused e) = query_refused e
refusal_of (plain.line_refused e) = line_refused e

-- the line that names a refusal
abbrev pub refusal_text : Refusal → List ℕ
refusal_text (schema_refused e) = plain.schema_refusal_text e
refusal_text (table_refused e) = table_refusal_text e
refusal_text (field_refused n e) = plain.field_refusal_text n e
refusal_text (words_refused e) = words_refusal_text e
refusal_text (query_refused e) = plain.query_refusal_text e
refusal_text (line_refused e) = plain.line_refusal_text e
refusal_text (session_refused e) = session_refusal_text e
