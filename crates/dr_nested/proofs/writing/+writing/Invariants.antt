use Rattle.std.proofs.Common.{◌≡◌, ◌++◌, List, drop, string_bytes}
use Rattle.dr_meaning.specs.SchemaText.{Token, separated, field_tokens}
use Rattle.dr_nested.specs.Views.{fields_view}
use Rattle.dr_nested.proofs.writing.+writing.Given as goal

-- the fields from this one on are still to be written
abbrev pub invariant-write_fields-fields : goal.invariant-write_fields-fields
invariant-write_fields-fields l = (ts : List Token) →
    string_bytes l.out ++ separated (field_tokens (fields_view (drop l.field-index l.fields.items)) ++ ts)
    ≡ string_bytes l.initial.out ++ separated (field_tokens (fields_view l.fields.items) ++ ts)
