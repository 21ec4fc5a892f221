-- What a command refuses, and the lines on err that name it.
use Rattle.std.specs.Prelude.{ℕ, List, [], ◌∷◌, ◌++◌, codes, decimal}
use Rattle.dr_meaning.specs.SchemaText.{SchemaProblem, too_long, float_kind, empty_group, syntax, bad_name, duplicate_name, too_deep, too_many_leaves}
use Rattle.dr_meaning.specs.SchemaText.{SchemaFault}
use Rattle.dr_meaning.specs.Path.{PathFault, unknown_field, not_a_leaf}
use Rattle.dr_meaning.specs.JsonRecord.{RecordFault, not_json, unknown_field as unknown_key, missing_field, wrong_kind, out_of_range, null_element, too_large}
use Rattle.dr_meaning.specs.Parse as parse
use Rattle.dr_meaning.specs.BoundExpression as binding
use Rattle.dr_meaning.specs.Lines.{LineFault, line_too_long, too_many_records, no_record, Refusal}

-- what binding refuses of queries over one another: that one of them has no meaning; that no item of the outermost object has the name by which
-- the result is to go; that an inner query gives no records, or is put in order or cut; that it gives none with such a name
pub data NestedProblem : Type 0 where
  in_query : binding.BindProblem → NestedProblem
  bad_order : NestedProblem
  gives_no_records : NestedProblem
  bad_result_name : NestedProblem

pub record NestedFault : Type 0 where
  pub place : ℕ
  pub problem : NestedProblem

abbrev pub fault_in_query : binding.BindFault → NestedFault
fault_in_query f = record { place = f.place; problem = in_query f.problem }

-- why a query is refused: its text spells none, or the schema has no meaning for it
pub data QueryRefusal : Type 0 where
  text_refused : parse.QueryFault → QueryRefusal
  binding_refused : NestedFault → QueryRefusal

-- what is refused, in the order in which it is looked at
pub data CommandRefusal : Type 0 where
  schema_refused : SchemaFault → CommandRefusal
  -- a FIELD, counted from 0
  field_refused : ℕ → PathFault → CommandRefusal
  query_refused : QueryRefusal → CommandRefusal
  line_refused : Refusal → CommandRefusal

-- ---- names of refusals

abbrev pub schema_problem_name : SchemaProblem → List ℕ
schema_problem_name too_long = codes "TooLong"
schema_problem_name float_kind = codes "FloatKind"
schema_problem_name empty_group = codes "EmptyGroup"
schema_problem_name syntax = codes "Syntax"
schema_problem_name bad_name = codes "BadName"
schema_problem_name duplicate_name = codes "DuplicateName"
schema_problem_name too_deep = codes "TooDeep"
schema_problem_name too_many_leaves = codes "TooManyLeaves"

abbrev pub record_fault_name : RecordFault → List ℕ
record_fault_name not_json = codes "NotJson"
record_fault_name unknown_key = codes "UnknownField"
record_fault_name missing_field = codes "MissingField"
record_fault_name wrong_kind = codes "WrongKind"
record_fault_name out_of_range = codes "OutOfRange"
record_fault_name null_element = codes "NullElement"
record_fault_name too_large = codes "TooLarge"

abbrev pub path_fault_name : PathFault → List ℕ
path_fault_name unknown_field = codes "UnknownField"
path_fault_name not_a_leaf = codes "NotALeaf"

abbrev pub line_fault_name : LineFault → List ℕ
line_fault_name line_too_long = codes "LineTooLong"
line_fault_name too_many_records = codes "TooManyRecords"
line_fault_name (no_record e) = record_fault_name e

abbrev pub query_problem_name : parse.QueryProblem → List ℕ
query_problem_name parse.too_long = codes "TooLong"
query_problem_name parse.syntax = codes "Syntax"
query_problem_name parse.too_deep = codes "TooDeep"
query_problem_name parse.too_many = codes "TooMany"

abbrev pub bind_problem_name : binding.BindProblem → List ℕ
bind_problem_name binding.unknown_table = codes "UnknownTable"
bind_problem_name binding.unknown_field = codes "UnknownField"
bind_problem_name binding.not_a_leaf = codes "NotALeaf"
bind_problem_name binding.type_mismatch = codes "TypeMismatch"
bind_problem_name binding.unrelated = codes "Unrelated"
bind_problem_name binding.bad_within = codes "BadWithin"
bind_problem_name binding.not_grouped = codes "NotGrouped"
bind_problem_name binding.duplicate_name = codes "DuplicateName"

abbrev pub nested_problem_name : NestedProblem → List ℕ
nested_problem_name (in_query p) = bind_problem_name p
nested_problem_name bad_order = codes "BadOrder"
nested_problem_name gives_no_records = codes "NotRecords"
nested_problem_name bad_result_name = codes "ResultName"

-- `refused schema at B: WHAT`, `refused field N: WHAT`, `refused query at B: WHAT`, `refused line N: WHAT`
abbrev pub schema_refusal_text : SchemaFault → List ℕ
schema_refusal_text e = codes "refused schema at " ++ (decimal e.place ++ (codes ": " ++ (schema_problem_name e.problem ++ 10 ∷ [])))

abbrev pub field_refusal_text : ℕ → PathFault → List ℕ
field_refusal_text n e = codes "refused field " ++ (decimal n ++ (codes ": " ++ (path_fault_name e ++ 10 ∷ [])))

abbrev pub query_fault_text : ℕ → List ℕ → List ℕ
query_fault_text place name = codes "refused query at " ++ (decimal place ++ (codes ": " ++ (name ++ 10 ∷ [])))

abbrev pub query_refusal_text : QueryRefusal → List ℕ
query_refusal_text (text_refused e) = query_fault_text e.place (query_problem_name e.problem)
query_refusal_text (binding_refused e) = query_fault_text e.place (nested_problem_name e.problem)

abbrev pub line_refusal_text : Refusal → List ℕ
line_refusal_text e = codes "refused line " ++ (decimal e.line ++ (codes ": " ++ (line_fault_name e.fault ++ 10 ∷ [])))
