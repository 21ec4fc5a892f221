-- What a table and its parts stand for.
use Rattle.std.specs.Prelude.{map, string_bytes}
use Rattle.dr_formats.specs.TableFile as meant
use Rattle.dr_nested.specs.SchemaView.{schema_view}
use Rattle.dr_table.specs.declared.table.Table.{Table}

abbrev pub table_view : Table → meant.Table
table_view t = record { schema = schema_view t.schema; leaves = map string_bytes t.leaves.items; copies = t.copies; tablets = t.tablets }
