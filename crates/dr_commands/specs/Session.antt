-- `session --schema F`: lines of the input keep records, publish them, and ask those that are published; each line's text is written before the next line
-- is read.
use Rattle.std.specs.Prelude.{ℕ, true, false, List, [], Option, Some, None, Result, Ok, Err, string_bytes}
use Rattle.dr_meaning.specs.Schema.{Schema}
use Rattle.dr_meaning.specs.SchemaText.{SchemaFault, parse_schema}
use Rattle.dr_sub_meaning.specs.Session.{SessionRefusal, Spoken, spoken}
use Rattle.dr_commands.specs.Refusals.{schema_refused, session_refused}
use Rattle.dr_commands.specs.Meaning.{Meaning, Outcome, done, refused, stops}
use Rattle.dr_commands.specs.declared.commands.session.Session.{Session}

-- its values
pub record SessionWords : Type 0 where
  pub schema : List ℕ

abbrev pub session_view : Session → SessionWords
session_view s = record { schema = string_bytes s.schema }

-- ---- what it means

-- all lines print a text, or those before the first that is refused do
abbrev pub spoken_outcome : List ℕ → Option SessionRefusal → Outcome
spoken_outcome text None = done text []
spoken_outcome text (Some e) = stops text (session_refused e)

abbrev pub session_outcome : Spoken → Outcome
session_outcome said = spoken_outcome said.text said.refusal

abbrev pub session_schema : List ℕ → Result Schema SchemaFault → Outcome
session_schema input (Ok s) = session_outcome (spoken s input)
session_schema input (Err e) = refused (schema_refused e) []

abbrev pub session_meaning : SessionWords → Meaning
session_meaning w = record {
  file = Some w.schema;
  reads_input = true;
  puts_files = false;
  links = 0;
  talks = true;
  outcome = λ look. session_schema look.input (parse_schema look.file);
}
