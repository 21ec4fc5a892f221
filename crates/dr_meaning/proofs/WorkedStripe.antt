-- The commands `stripe` and `fsm`, by computation.
use Rattle.std.specs.Prelude.{◌≡◌, ℕ, List, [], ◌∷◌, ◌++◌, Ok, Err, codes, refl}
use Rattle.std.specs.Str.{is_utf8, chars}
use Rattle.std.specs.Fmt.{digits}
use Rattle.json.specs.Print.{escape_byte}
use Rattle.serde_json.proofs.OnLiterals.{serde_json_on_literals}
use Rattle.dr_meaning.specs.SchemaText.{parse_schema, empty_group}
use Rattle.dr_meaning.specs.Path.{unknown_field, not_a_leaf}
use Rattle.dr_meaning.specs.JsonRecord.{record_of_line, missing_field}
use Rattle.dr_meaning.specs.Lines.{records_of, no_record}
use Rattle.dr_meaning.specs.Automaton.{automaton_text}
use Rattle.dr_meaning.specs.Refusals.{schema_refused, field_refused, line_refused, field_refusal_text}
use Rattle.dr_meaning.specs.Stripe.{stripe, column_text}
use Rattle.dr_meaning.specs.Fsm.{fsm}
use Rattle.dr_meaning.proofs.WorkedSchemas.{document_text}
use Rattle.dr_meaning.proofs.WorkedRecords.{line_10, line_20}

abbrev input : List ℕ
input = line_10 ++ 10 ∷ (line_20 ++ 10 ∷ [])

-- ---- stripe

pub country_lines : stripe document_text (codes "Name.Language.Country") input ≡ Ok (codes "\"us\" 0 3\nNULL 2 2\nNULL 1 1\n\"gb\" 1 3\nNULL 0 1\n")
unfolding stripe column_text parse_schema records_of record_of_line is_utf8 chars serde_json_on_literals escape_byte digits
country_lines = refl

pub backward_lines : stripe document_text (codes "Links.Backward") input ≡ Ok (codes "NULL 0 1\n10 0 2\n30 1 2\n")
unfolding stripe column_text parse_schema records_of record_of_line is_utf8 chars serde_json_on_literals escape_byte digits
backward_lines = refl

pub doc_id_lines : stripe document_text (codes "DocId") input ≡ Ok (codes "10 0 0\n20 0 0\n")
unfolding stripe column_text parse_schema records_of record_of_line is_utf8 chars serde_json_on_literals escape_byte digits
doc_id_lines = refl

-- the FIELD is looked at before the lines
pub group_refused : stripe document_text (codes "Name") (codes "{}") ≡ Err (field_refused 0 not_a_leaf)
unfolding stripe parse_schema
group_refused = refl

pub line_refused_then : stripe document_text (codes "DocId") (codes "{}") ≡ Err (line_refused (record { line = 1; fault = no_record missing_field }))
unfolding stripe parse_schema records_of record_of_line is_utf8 chars serde_json_on_literals
line_refused_then = refl

-- ---- fsm

pub two_leaves : fsm document_text (codes "Name.Language.Country" ∷ codes "DocId" ∷ codes "DocId" ∷ []) ≡
    Ok (codes "DocId 0 Name.Language.Country\nName.Language.Country 0 end\nName.Language.Country 1 Name.Language.Country\nName.Language.Country 2 Name.Language.Country\n")
unfolding fsm parse_schema automaton_text digits
two_leaves = refl

pub second_refused : (fsm document_text (codes "DocId" ∷ codes "Nam" ∷ codes "Name" ∷ []) ≡ Err (field_refused 1 unknown_field)) × (field_refusal_text 1 unknown_field ≡ codes "refused field 1: UnknownField\n")
unfolding fsm parse_schema digits
second_refused = (refl, refl)

-- a FIELD that names a group, and an unknown one, are refused at their numbers; the schema comes before both
pub group_of_fsm : (fsm document_text (codes "DocId" ∷ codes "Name.Language" ∷ []) ≡ Err (field_refused 1 not_a_leaf)) × (fsm document_text (codes "Links" ∷ codes "x" ∷ []) ≡ Err (field_refused 0 not_a_leaf))
    × (fsm (codes "message T { }") (codes "Links" ∷ []) ≡ Err (schema_refused (record { place = 12; problem = empty_group })))
unfolding fsm parse_schema
group_of_fsm = (refl, refl, refl)

-- words in another order, and one twice: the leaves in schema order, each once
pub in_schema_order : fsm document_text (codes "Name.Url" ∷ codes "Links.Forward" ∷ codes "Name.Url" ∷ codes "DocId" ∷ []) ≡
    Ok (codes "DocId 0 Links.Forward\nLinks.Forward 0 Name.Url\nLinks.Forward 1 Links.Forward\nName.Url 0 end\nName.Url 1 Name.Url\n")
unfolding fsm parse_schema automaton_text digits
in_schema_order = refl

-- no words: no leaves and no lines
pub of_no_words : fsm document_text [] ≡ Ok []
unfolding fsm parse_schema automaton_text digits
of_no_words = refl
