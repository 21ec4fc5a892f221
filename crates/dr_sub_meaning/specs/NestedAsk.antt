-- Queries over records: the query of a text, with those in its FROM, or why there is none; what it prints; and the command `ask`.
use Rattle.std.specs.Prelude.{ℕ, List, Result, Ok, Err}
use Rattle.dr_meaning.specs.Schema.{Schema}
use Rattle.dr_meaning.specs.SchemaText.{SchemaFault, parse_schema}
use Rattle.dr_meaning.specs.Record.{Node}
use Rattle.dr_meaning.specs.Parse as parse
use Rattle.dr_meaning.specs.Print.{result_text}
use Rattle.dr_meaning.specs.Lines.{Refusal, records_of}
use Rattle.dr_meaning.specs.Refusals.{NestedFault, QueryRefusal, text_refused, binding_refused, CommandRefusal, schema_refused, query_refused, line_refused}
use Rattle.dr_meaning.specs.Ask.{most_asked}
use Rattle.dr_sub_meaning.specs.Nested.{NestedQuery, meaning}
use Rattle.dr_sub_meaning.specs.NestedParse.{NestedSyntax, parse_nested}
use Rattle.dr_sub_meaning.specs.NestedBinding.{bind_nested}

-- ---- the query of a text

abbrev pub bound_or_refused : Result NestedQuery NestedFault → Result NestedQuery QueryRefusal
bound_or_refused (Ok n) = Ok n
bound_or_refused (Err e) = Err (binding_refused e)

abbrev pub bound_syntax : Schema → Result NestedSyntax parse.QueryFault → Result NestedQuery QueryRefusal
bound_syntax s (Ok x) = bound_or_refused (bind_nested s x)
bound_syntax s (Err e) = Err (text_refused e)

-- the query of a text over a schema, or its first fault: that of the text, or else that of binding
unfoldable pub read_nested : Schema → List ℕ → Result NestedQuery QueryRefusal
read_nested s text = bound_syntax s (parse_nested text)

-- what a query prints on records
unfoldable pub nested_answer_text : Schema → NestedQuery → List Node → List ℕ
nested_answer_text s n R = result_text (meaning s.fields n R)

-- ---- the command

abbrev pub ask_records : Schema → NestedQuery → Result (List Node) Refusal → Result (List ℕ) CommandRefusal
ask_records s n (Ok R) = Ok (nested_answer_text s n R)
ask_records s n (Err e) = Err (line_refused e)

abbrev pub ask_query : ℕ → Schema → List ℕ → Result NestedQuery QueryRefusal → Result (List ℕ) CommandRefusal
ask_query rows s input (Ok n) = ask_records s n (records_of s.fields (most_asked rows) input)
ask_query rows s input (Err e) = Err (query_refused e)

abbrev pub ask_schema : ℕ → List ℕ → List ℕ → Result Schema SchemaFault → Result (List ℕ) CommandRefusal
ask_schema rows query input (Ok s) = ask_query rows s input (read_nested s query)
ask_schema rows query input (Err e) = Err (schema_refused e)

-- the text that `ask` prints of a schema text, a query and an input, with so many records to a tablet; or the first refusal: the schema, the
-- query, then the lines in order
unfoldable pub ask : ℕ → List ℕ → List ℕ → List ℕ → Result (List ℕ) CommandRefusal
ask rows schema query input = ask_schema rows query input (parse_schema schema)
