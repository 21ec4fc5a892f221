-- What a `Schema` stands for.
use Rattle.std.specs.Prelude.{string_bytes}
use Rattle.dr_meaning.specs.Schema as tree
use Rattle.dr_nested.specs.Views.{fields_view}
use Rattle.dr_nested.specs.declared.schema.Schema.{Schema}

abbrev pub schema_view : Schema → tree.Schema
schema_view s = record { name = string_bytes s.name; fields = fields_view s.fields.items }
