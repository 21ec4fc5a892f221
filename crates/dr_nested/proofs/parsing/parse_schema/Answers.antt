use Rattle.std.proofs.Common.{◌∙◌, ◌≡◌, length, Ok, Err, string_bytes, Option, Some, None, Result}
use Rattle.std.specs.Prelude.{⊤, MatchOption}
use Rattle.dr_meaning.specs.Schema.{Schema}
use Rattle.dr_meaning.specs.SchemaText.{SchemaFault, parse_schema, read_tokens, tokens_of, reading_start}
use Rattle.dr_nested.specs.Reading.{reading_view}
use Rattle.dr_nested.specs.Faults.{schema_fault_view}
use Rattle.dr_nested.specs.Views.{fields_view}
use Rattle.dr_nested.proofs.ParseLemmas.{text_is_too_long, text_is_read, ends_early, ends_well, accepted_is_schema}
use Rattle.dr_nested.proofs.parsing.parse_schema.Goals as goal

pub returns-then-text-gt-LONGEST_SCHEMA : goal.returns-then-text-gt-LONGEST_SCHEMA
returns-then-text-gt-LONGEST_SCHEMA c = text_is_too_long c.args.text.now c.if-text-gt-LONGEST_SCHEMA.true

-- a fault of the tokens is the text's
handed_on : (o : Option SchemaFault) (r s : Result Schema SchemaFault) → s ≡ r → MatchOption o ⊤ (λ f. r ≡ Err f) → MatchOption o ⊤ (λ f. s ≡ Err f)
handed_on None r s e h = tt
handed_on (Some f) r s e h = e ∙ h

pub returns-in-Err : goal.returns-in-Err
returns-in-Err c =
    handed_on (schema_fault_view c.in-Err.fault) (read_tokens (length c.args.text.now) (tokens_of c.args.text.now) reading_start) (parse_schema c.args.text.now)
    (text_is_read c.args.text.now c.if-text-gt-LONGEST_SCHEMA.false) c.in-Err.ensures

-- the text's schema, where its end is expected
schema_of : (c : goal.In-TextEnd) → parse_schema c.args.text.now ≡ Ok (record { name = string_bytes c.in-Ok.field-0.message; fields = fields_view c.in-Ok.field-0.fields.items })
schema_of c =
    text_is_read c.args.text.now c.if-text-gt-LONGEST_SCHEMA.false ∙ c.in-Ok.ensures
    ∙ ends_well (string_bytes c.in-Ok.field-0.name) c.in-Ok.field-0.expected (reading_view c.in-Ok.field-0) (length c.args.text.now) c.in-TextEnd.is

pub invariant_of-result : goal.invariant_of-result
invariant_of-result c = record { valid = accepted_is_schema c.args.text.now (record { name = string_bytes c.in-Ok.field-0.message; fields = fields_view c.in-Ok.field-0.fields.items }) (schema_of c) }

pub returns-in-TextEnd : goal.returns-in-TextEnd
returns-in-TextEnd c =
    text_is_read c.args.text.now c.if-text-gt-LONGEST_SCHEMA.false ∙ c.in-Ok.ensures
    ∙ ends_well (string_bytes c.in-Ok.field-0.name) c.in-Ok.field-0.expected (reading_view c.in-Ok.field-0) (length c.args.text.now) c.in-TextEnd.is

pub returns : goal.returns
returns c =
    text_is_read c.args.text.now c.if-text-gt-LONGEST_SCHEMA.false ∙ c.in-Ok.ensures
    ∙ ends_early (string_bytes c.in-Ok.field-0.name) c.in-Ok.field-0.expected (reading_view c.in-Ok.field-0) (length c.args.text.now) c.in_default.not-TextEnd
