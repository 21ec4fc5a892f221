-- The command `ask`, by computation.
use Rattle.std.specs.Prelude.{◌≡◌, ℕ, List, [], ◌∷◌, ◌++◌, Ok, Err, codes, refl}
use Rattle.std.specs.Str.{is_utf8, chars}
use Rattle.std.specs.Fmt.{digits}
use Rattle.json.specs.Print.{escape_byte}
use Rattle.serde_json.proofs.OnLiterals.{serde_json_on_literals}
use Rattle.dr_meaning.specs.SchemaText.{parse_schema, empty_group}
use Rattle.dr_meaning.specs.JsonRecord.{record_of_line, not_json}
use Rattle.dr_meaning.specs.Lines.{records_of, no_record, too_many_records}
use Rattle.dr_meaning.specs.Parse.{items as plain_items, keys, argument, whole_expression, syntax}
use Rattle.dr_meaning.specs.Binding.{bind}
use Rattle.dr_meaning.specs.BoundExpression.{unknown_table, type_mismatch}
use Rattle.dr_meaning.specs.Query as plain
use Rattle.dr_meaning.specs.Expression.{matches}
use Rattle.dr_meaning.specs.Print.{result_text}
use Rattle.dr_meaning.specs.Refusals.{schema_refused, text_refused, binding_refused, query_refused, line_refused, in_query, gives_no_records}
use Rattle.dr_meaning.proofs.WorkedSchemas.{document_text}
use Rattle.dr_meaning.proofs.WorkedRecords.{line_10, line_20}
use Rattle.dr_ordering.specs.Ordered.{in_order}
use Rattle.dr_sub_meaning.specs.ResultRecords.{result_fields}
use Rattle.dr_sub_meaning.specs.ResultFaults.{result_schema}
use Rattle.dr_sub_meaning.specs.Nested.{answered, meaning, outer_fields, outer_records}
use Rattle.dr_sub_meaning.specs.NestedParse.{parse_nested}
use Rattle.dr_sub_meaning.specs.NestedBinding.{bind_nested}
use Rattle.dr_sub_meaning.specs.NestedAsk.{ask, read_nested, nested_answer_text}

abbrev input : List ℕ
input = line_10 ++ 10 ∷ (line_20 ++ 10 ∷ [])

-- ---- SELECT COUNT(Name.Url) FROM Document

abbrev query : List ℕ
query = codes "SELECT COUNT(Name.Url) FROM Document"

pub first_answer : ask 1 document_text query input ≡ Ok (codes "{\"f0_\":3}\n")
unfolding ask parse_schema read_nested parse_nested plain_items keys argument whole_expression bind_nested bind nested_answer_text answered meaning outer_fields outer_records plain.meaning records_of record_of_line is_utf8 chars serde_json_on_literals result_text escape_byte digits
first_answer = refl

pub of_empty_input : ask 1 document_text query [] ≡ Ok (codes "{\"f0_\":0}\n")
unfolding ask parse_schema read_nested parse_nested plain_items keys argument whole_expression bind_nested bind nested_answer_text answered meaning outer_fields outer_records plain.meaning records_of record_of_line is_utf8 chars serde_json_on_literals result_text escape_byte digits
of_empty_input = refl

pub named_count : ask 1 document_text (codes "select Count ( \"Name\" . Url ) as urls from Document ;") input ≡ Ok (codes "{\"urls\":3}\n")
unfolding ask parse_schema read_nested parse_nested plain_items keys argument whole_expression bind_nested bind nested_answer_text answered meaning outer_fields outer_records plain.meaning records_of record_of_line is_utf8 chars serde_json_on_literals result_text escape_byte digits
named_count = refl

-- ---- refusals: the schema, then the query, then the lines

pub schema_first : ask 1 (codes "message T { }") (codes "SELECT") (codes "x") ≡ Err (schema_refused (record { place = 12; problem = empty_group }))
unfolding ask parse_schema read_nested parse_nested plain_items keys argument whole_expression bind_nested bind nested_answer_text answered meaning outer_fields outer_records plain.meaning records_of record_of_line is_utf8 chars serde_json_on_literals result_text escape_byte digits
schema_first = refl

-- a text that is no query, before the lines are looked at; a query without a meaning over the schema
pub no_query : ask 1 document_text (codes "SELECT FROM Document") (codes "x") ≡ Err (query_refused (text_refused (record { place = 7; problem = syntax })))
unfolding ask parse_schema read_nested parse_nested plain_items keys argument whole_expression bind_nested bind nested_answer_text answered meaning outer_fields outer_records plain.meaning records_of record_of_line is_utf8 chars serde_json_on_literals result_text escape_byte digits
no_query = refl

pub other_table : ask 1 document_text (codes "SELECT COUNT(DocId) FROM T") (codes "x") ≡ Err (query_refused (binding_refused (record { place = 25; problem = in_query unknown_table })))
unfolding ask parse_schema read_nested parse_nested plain_items keys argument whole_expression bind_nested bind nested_answer_text answered meaning outer_fields outer_records plain.meaning records_of record_of_line is_utf8 chars serde_json_on_literals result_text escape_byte digits
other_table = refl

pub other_type : ask 1 document_text (codes "SELECT DocId FROM Document WHERE Links.Forward > 'x'") input ≡ Err (query_refused (binding_refused (record { place = 47; problem = in_query type_mismatch })))
unfolding ask parse_schema read_nested parse_nested plain_items keys argument whole_expression bind_nested bind nested_answer_text answered meaning outer_fields outer_records plain.meaning records_of record_of_line is_utf8 chars serde_json_on_literals result_text escape_byte digits
other_type = refl

-- so many records to a tablet, and 4,096 tablets
pub most_of_none : ask 0 document_text query input ≡ Err (line_refused (record { line = 1; fault = too_many_records }))
unfolding ask parse_schema read_nested parse_nested plain_items keys argument whole_expression bind_nested bind nested_answer_text answered meaning outer_fields outer_records plain.meaning records_of record_of_line is_utf8 chars serde_json_on_literals result_text escape_byte digits
most_of_none = refl

pub a_line_is_refused : ask 1 document_text query (input ++ codes "\n{}") ≡ Err (line_refused (record { line = 3; fault = no_record not_json }))
unfolding ask parse_schema read_nested parse_nested plain_items keys argument whole_expression bind_nested bind nested_answer_text answered meaning outer_fields outer_records plain.meaning records_of record_of_line is_utf8 chars serde_json_on_literals result_text escape_byte digits
a_line_is_refused = refl

-- ---- a query over the results of another, and its faults

pub a_nested_answer : ask 1 document_text (codes "SELECT n FROM (SELECT COUNT(Name.Url) WITHIN RECORD AS n FROM Document) ORDER BY n LIMIT 1") input ≡ Ok (codes "{\"n\":1}\n")
unfolding ask parse_schema read_nested parse_nested plain_items keys argument whole_expression bind_nested bind nested_answer_text answered meaning outer_fields outer_records plain.meaning records_of record_of_line is_utf8 chars serde_json_on_literals result_text escape_byte digits result_schema result_fields in_order matches
a_nested_answer = refl

pub nested_refusals : ask 1 document_text (codes "SELECT c FROM (SELECT COUNT(*) AS c FROM Document)") (codes "x") ≡ Err (query_refused (binding_refused (record { place = 15; problem = gives_no_records })))
unfolding ask parse_schema read_nested parse_nested plain_items keys argument whole_expression bind_nested bind nested_answer_text answered meaning outer_fields outer_records plain.meaning records_of record_of_line is_utf8 chars serde_json_on_literals result_text escape_byte digits result_schema result_fields
nested_refusals = refl
