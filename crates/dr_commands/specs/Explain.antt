-- `explain --schema F QUERY`: the queries of the servers of a tree by which a query over a schema is served. It reads no input.
use Rattle.std.specs.Prelude.{ℕ, false, List, Some, Result, Ok, Err, string_bytes}
use Rattle.dr_meaning.specs.Schema.{Schema}
use Rattle.dr_meaning.specs.SchemaText.{SchemaFault, parse_schema}
use Rattle.dr_meaning.specs.Refusals.{QueryRefusal, CommandRefusal, schema_refused, query_refused}
use Rattle.dr_sub_meaning.specs.Nested.{NestedQuery}
use Rattle.dr_sub_meaning.specs.NestedAsk.{read_nested}
use Rattle.dr_sub_meaning.specs.NestedText.{nested_text}
use Rattle.dr_commands.specs.Meaning.{Meaning, plain}
use Rattle.dr_commands.specs.declared.commands.explain.Explain.{Explain}

-- its values
pub record ExplainWords : Type 0 where
  pub schema : List ℕ
  pub query : List ℕ

abbrev pub explain_view : Explain → ExplainWords
explain_view e = record { schema = string_bytes e.schema; query = string_bytes e.query }

-- ---- what it means

abbrev pub explain_query : Schema → Result NestedQuery QueryRefusal → Result (List ℕ) CommandRefusal
explain_query s (Ok n) = Ok (nested_text s.fields n)
explain_query s (Err e) = Err (query_refused e)

abbrev pub explain_schema : List ℕ → Result Schema SchemaFault → Result (List ℕ) CommandRefusal
explain_schema query (Ok s) = explain_query s (read_nested s query)
explain_schema query (Err e) = Err (schema_refused e)

-- the text that `explain` prints of a schema text and a query's text, or the first refusal: the schema, then the query
unfoldable pub explained : List ℕ → List ℕ → Result (List ℕ) CommandRefusal
explained schema query = explain_schema query (parse_schema schema)

abbrev pub explain_meaning : ExplainWords → Meaning
explain_meaning w = record {
  file = Some w.schema;
  reads_input = false;
  puts_files = false;
  links = 0;
  talks = false;
  outcome = λ look. plain (explained look.file w.query);
}
