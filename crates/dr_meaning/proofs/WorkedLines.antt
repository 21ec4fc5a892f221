-- Input lines, and the lines that name refusals, by computation.
use Rattle.std.specs.Prelude.{◌≡◌, ℕ, [], ◌∷◌, ◌++◌, map, Some, None, Err, codes, refl}
use Rattle.std.specs.Str.{is_utf8, chars}
use Rattle.std.specs.Fmt.{digits}
use Rattle.serde_json.proofs.OnLiterals.{serde_json_on_literals}
use Rattle.dr_meaning.specs.SchemaText.{empty_group}
use Rattle.dr_meaning.specs.Schema.{Fields, no_fields, field, leaf, required, int64_kind}
use Rattle.dr_meaning.specs.Record.{Node, no_slots, slot}
use Rattle.dr_meaning.specs.JsonRecord.{record_of_line, missing_field, not_json}
use Rattle.dr_meaning.specs.Lines.{lines_of, records_of, taken_from, no_record, too_many_records}
use Rattle.dr_meaning.specs.Parse.{too_long, syntax, too_deep, too_many}
use Rattle.dr_meaning.specs.BoundExpression.{unknown_table, unknown_field, not_a_leaf, type_mismatch, unrelated, bad_within, not_grouped, duplicate_name}
use Rattle.dr_meaning.specs.Refusals.{text_refused, binding_refused}
use Rattle.dr_meaning.specs.Refusals.{schema_refusal_text, query_refusal_text, line_refusal_text, query_problem_name, bind_problem_name, nested_problem_name, in_query, bad_order, gives_no_records, bad_result_name}
use Rattle.dr_meaning.proofs.WorkedSchemas.{document}
use Rattle.dr_meaning.proofs.WorkedRecords.{line_30, numbers}

-- ---- lines

pub cut_lines : (lines_of (codes "a\n\nb") ≡ codes "a" ∷ [] ∷ codes "b" ∷ []) × (lines_of (codes "a\n") ≡ codes "a" ∷ []) × (lines_of [] ≡ []) × (lines_of (codes "\n") ≡ [] ∷ [])
cut_lines = (refl, refl, refl, refl)

pub second_line_refused : records_of document 5 (line_30 ++ codes "\n{}\nx") ≡ Err (record { line = 2; fault = no_record missing_field })
unfolding records_of record_of_line is_utf8 chars serde_json_on_literals
second_line_refused = refl

-- past the greatest number of lines the count is what is refused, not the line
pub one_line_too_many : records_of document 1 (line_30 ++ codes "\nx") ≡ Err (record { line = 2; fault = too_many_records })
unfolding records_of record_of_line is_utf8 chars serde_json_on_literals
one_line_too_many = refl

pub refusal_texts : (schema_refusal_text (record { place = 12; problem = empty_group }) ≡ codes "refused schema at 12: EmptyGroup\n") × (line_refusal_text (record { line = 1; fault = no_record missing_field }) ≡ codes "refused line 1: MissingField\n")
unfolding digits
refusal_texts = (refl, refl)

pub query_refusal_texts : (query_refusal_text (text_refused (record { place = 65536; problem = too_long })) ≡ codes "refused query at 65536: TooLong\n")
    × (query_refusal_text (binding_refused (record { place = 0; problem = in_query unrelated })) ≡ codes "refused query at 0: Unrelated\n")
unfolding digits
query_refusal_texts = (refl, refl)

pub query_problems : (map query_problem_name (too_long ∷ syntax ∷ too_deep ∷ too_many ∷ []) ≡ codes "TooLong" ∷ codes "Syntax" ∷ codes "TooDeep" ∷ codes "TooMany" ∷ [])
    × (map bind_problem_name (unknown_table ∷ unknown_field ∷ not_a_leaf ∷ type_mismatch ∷ unrelated ∷ bad_within ∷ not_grouped ∷ duplicate_name ∷ []) ≡
    codes "UnknownTable" ∷ codes "UnknownField" ∷ codes "NotALeaf" ∷ codes "TypeMismatch" ∷ codes "Unrelated" ∷ codes "BadWithin" ∷ codes "NotGrouped" ∷ codes "DuplicateName" ∷ [])
    × (map nested_problem_name (in_query unrelated ∷ bad_order ∷ gives_no_records ∷ bad_result_name ∷ []) ≡ codes "Unrelated" ∷ codes "BadOrder" ∷ codes "NotRecords" ∷ codes "ResultName" ∷ [])
query_problems = (refl, refl, refl)

-- ---- the records before a refusal

abbrev one : Fields
one = field (codes "a") required (leaf int64_kind) no_fields

abbrev number : ℕ → Node
number n = slot (numbers (n ∷ [])) no_slots

-- the records before the first refused line, and that line; lines behind it aren't looked at; none where that is the first line
pub taken : (taken_from one 9 1 (codes "{\"a\":1}" ∷ codes "{\"a\":2}" ∷ codes "{}" ∷ codes "x" ∷ []) ≡ record { records = number 1 ∷ number 2 ∷ []; refusal = Some (record { line = 3; fault = no_record missing_field }) })
    × (taken_from one 1 1 (codes "{\"a\":1}" ∷ codes "x" ∷ []) ≡ record { records = number 1 ∷ []; refusal = Some (record { line = 2; fault = too_many_records }) })
    × (taken_from one 9 1 (codes "{\"a\":1}" ∷ []) ≡ record { records = number 1 ∷ []; refusal = None })
    × (taken_from one 9 1 (codes "x" ∷ codes "{\"a\":1}" ∷ []) ≡ record { records = []; refusal = Some (record { line = 1; fault = no_record not_json }) })
unfolding record_of_line is_utf8 chars serde_json_on_literals
taken = (refl, refl, refl, refl)
