-- A query that stands alone: that of a text, and what it prints on records; and how many records may be asked.
use Rattle.std.specs.Prelude.{ℕ, ◌*◌, List, Result, Ok, Err}
use Rattle.dr_meaning.specs.Schema.{Schema}
use Rattle.dr_meaning.specs.Record.{Node}
use Rattle.dr_meaning.specs.Query.{Query, meaning}
use Rattle.dr_meaning.specs.Syntax.{QuerySyntax}
use Rattle.dr_meaning.specs.Parse.{QueryFault, parse_query}
use Rattle.dr_meaning.specs.BoundExpression.{BindFault}
use Rattle.dr_meaning.specs.Binding.{bind}
use Rattle.dr_meaning.specs.Print.{result_text}
use Rattle.dr_meaning.specs.Refusals.{QueryRefusal, text_refused, binding_refused, fault_in_query}

abbrev pub bound_or_refused : Result Query BindFault → Result Query QueryRefusal
bound_or_refused (Ok q) = Ok q
bound_or_refused (Err e) = Err (binding_refused (fault_in_query e))

abbrev pub bound_syntax : Schema → Result QuerySyntax QueryFault → Result Query QueryRefusal
bound_syntax s (Ok q) = bound_or_refused (bind s q)
bound_syntax s (Err e) = Err (text_refused e)

-- the query of a text over a schema, or its first fault: that of the text, or else that of binding
unfoldable pub read_query : Schema → List ℕ → Result Query QueryRefusal
read_query s text = bound_syntax s (parse_query text)

-- what a query prints on records
unfoldable pub answer_text : Schema → Query → List Node → List ℕ
answer_text s q ns = result_text (meaning s.fields q ns)

-- at most 4,096 tablets, of so many records each
abbrev pub most_asked : ℕ → ℕ
most_asked rows = 4096 * rows
