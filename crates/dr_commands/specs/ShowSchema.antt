-- `schema FILE`: the open part of a Parquet file's schema.
use Rattle.std.specs.Prelude.{ℕ, false, List, None, string_bytes}
use Rattle.dr_commands.specs.Meaning.{Meaning, looks_at}
use Rattle.dr_commands.specs.declared.commands.show_schema.ShowSchema.{ShowSchema}

-- its values
pub record ShowSchemaWords : Type 0 where
  pub file : List ℕ

abbrev pub show_schema_view : ShowSchema → ShowSchemaWords
show_schema_view s = record { file = string_bytes s.file }

-- what it means
abbrev pub show_schema_meaning : ShowSchemaWords → Meaning
show_schema_meaning w = record { file = None; reads_input = false; puts_files = false; links = 1; talks = false; outcome = λ look. looks_at w.file }
