-- Reading the file that a command names.
use Rattle.std.specs.Prelude.{◌<◌, ℕ, List, length}
use Rattle.dr_meaning.specs.SchemaText.{longest_schema, too_long as schema_too_long}
use Rattle.dr_formats.specs.TableFile.{longest_table, table_too_long}
use Rattle.dr_commands.specs.Refusals.{Refusal, schema_refused, table_refused}
use Rattle.dr_commands.specs.Meaning.{Meaning}
use Rattle.dr_top.specs.World.{outcome_on, RefusesAlways}
use Rattle.dr_top.specs.declared.named_file.Kind.{Kind}

-- the greatest length of a file of a kind
abbrev pub longest : Kind → ℕ
longest Kind.Schema = longest_schema
longest Kind.Table = longest_table

-- how a longer one is refused
abbrev pub too_long : Kind → Refusal
too_long Kind.Schema = schema_refused (record { place = longest_schema; problem = schema_too_long })
too_long Kind.Table = table_refused table_too_long

-- whatever the input, the command refuses a longer one so
abbrev pub RefusesLonger : Meaning → Kind → Type 0
RefusesLonger m kind = (file : List ℕ) → longest kind < length file → RefusesAlways (outcome_on m file) (too_long kind)
