-- Sessions, by computation.
use Rattle.std.specs.Prelude.{◌≡◌, ℕ, List, [], ◌∷◌, ◌++◌, Some, None, Err, codes, refl}
use Rattle.std.specs.Str.{is_utf8, chars}
use Rattle.std.specs.Str.Lossy.{utf8_valid_len}
use Rattle.std.specs.Fmt.{digits}
use Rattle.json.specs.Print.{escape_byte}
use Rattle.serde_json.proofs.OnLiterals.{serde_json_on_literals}
use Rattle.dr_meaning.specs.Schema.{Schema}
use Rattle.dr_meaning.specs.JsonRecord.{record_of_line, not_json}
use Rattle.dr_meaning.specs.Parse.{items as plain_items, keys, argument, whole_expression}
use Rattle.dr_meaning.specs.Binding.{bind}
use Rattle.dr_meaning.specs.Query as plain
use Rattle.dr_meaning.specs.Print.{result_text}
use Rattle.dr_meaning.proofs.WorkedSchemas.{document}
use Rattle.dr_meaning.proofs.WorkedRecords.{line_10, line_20}
use Rattle.dr_sub_meaning.specs.Nested.{answered, meaning, outer_fields, outer_records}
use Rattle.dr_sub_meaning.specs.NestedParse.{parse_nested}
use Rattle.dr_sub_meaning.specs.NestedBinding.{bind_nested}
use Rattle.dr_sub_meaning.specs.NestedAsk.{read_nested, nested_answer_text}
use Rattle.dr_sub_meaning.specs.Session.{spoken, commanded, new_session, asked_text, session_refusal_text, no_command, full, no_record}

abbrev the_schema : Schema
the_schema = record { name = codes "Document"; fields = document }

abbrev count : List ℕ
count = codes "?SELECT COUNT(*) AS r FROM Document\n"

-- before the first publish, between a record and its publish, and behind the second
pub two_publishes : spoken the_schema (count ++ (codes "+" ++ (line_10 ++ (codes "\n.\n" ++ (count ++ (codes "+" ++ (line_20 ++ (codes "\n" ++ (count ++ (codes ".\n" ++ count)))))))))) ≡ record {
  text = codes "{\"r\":0}\nat 0\npublished 1\n{\"r\":1}\nat 1\n{\"r\":1}\nat 1\npublished 2\n{\"r\":2}\nat 2\n";
  refusal = None;
}
unfolding spoken utf8_valid_len parse_nested plain_items keys argument whole_expression bind_nested bind read_nested nested_answer_text answered outer_fields outer_records plain.meaning record_of_line is_utf8 chars serde_json_on_literals result_text meaning escape_byte digits
two_publishes = refl

-- a session without lines
pub no_lines : spoken the_schema [] ≡ record { text = []; refusal = None }
unfolding spoken
no_lines = refl

-- what a refused line leaves: the text of those before it
pub second_line_refused : spoken the_schema (codes ".\n+x\n.\n") ≡ record { text = codes "published 1\n"; refusal = Some (record { line = 2; fault = no_record not_json }) }
unfolding spoken record_of_line is_utf8 chars serde_json_on_literals digits
second_line_refused = refl

-- lines that are no command: an empty one, a dot with more behind it, a blank before the sign
pub no_commands : (commanded the_schema new_session [] ≡ Err no_command) × (commanded the_schema new_session (codes "..") ≡ Err no_command) × (commanded the_schema new_session (codes " .") ≡ Err no_command)
no_commands = (refl, refl, refl)

-- a byte that isn't UTF-8 is a bad token, at its place behind the question mark; in quotes it leaves them unclosed
pub bad_bytes : (asked_text (65 ∷ 255 ∷ 66 ∷ []) ≡ 65 ∷ 1 ∷ []) × (asked_text (codes "SELECT") ≡ codes "SELECT")
unfolding utf8_valid_len is_utf8 chars lib.Utf8.encode
bad_bytes = (refl, refl)

-- the lines that name refusals
pub refusal_lines : (session_refusal_text (record { line = 4097; fault = full }) ≡ codes "refused line 4097: Full\n") × (session_refusal_text (record { line = 3; fault = no_command }) ≡ codes "refused line 3: Command\n")
unfolding digits
refusal_lines = (refl, refl)
