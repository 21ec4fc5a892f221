-- Rows of sessions that were told by hand, each with what stands on out and on err, by computation.
use Rattle.std.specs.Prelude.{◌≡◌, ℕ, List, [], ◌∷◌, ◌++◌, Option, Some, None, codes, refl}
use Rattle.std.specs.Str.{is_utf8, chars}
use Rattle.std.specs.Str.Lossy.{utf8_valid_len}
use Rattle.std.specs.Fmt.{digits}
use Rattle.json.specs.Print.{escape_byte}
use Rattle.serde_json.proofs.OnLiterals.{serde_json_on_literals}
use Rattle.dr_meaning.specs.Schema.{Schema}
use Rattle.dr_meaning.specs.JsonRecord.{record_of_line}
use Rattle.dr_meaning.specs.Parse.{items as plain_items, keys, argument, whole_expression}
use Rattle.dr_meaning.specs.Binding.{bind}
use Rattle.dr_meaning.specs.Query as plain
use Rattle.dr_meaning.specs.Print.{result_text}
use Rattle.dr_meaning.proofs.WorkedSchemas.{document}
use Rattle.dr_meaning.proofs.WorkedRecords.{line_10, line_20}
use Rattle.dr_sub_meaning.specs.Nested.{answered, meaning, outer_fields, outer_records}
use Rattle.dr_sub_meaning.specs.NestedParse.{parse_nested}
use Rattle.dr_sub_meaning.specs.NestedBinding.{bind_nested}
use Rattle.dr_sub_meaning.specs.NestedAsk.{read_nested, nested_answer_text}
use Rattle.dr_sub_meaning.specs.Session.{Spoken, SessionRefusal, spoken, session_refusal_text}

abbrev the_schema : Schema
the_schema = record { name = codes "Document"; fields = document }

abbrev count : List ℕ
count = codes "?SELECT COUNT(*) AS r FROM Document\n"

abbrev refusal_shown : Option SessionRefusal → List ℕ
refusal_shown None = []
refusal_shown (Some e) = session_refusal_text e

abbrev shown : Spoken → List ℕ × List ℕ
shown s = (s.text, refusal_shown s.refusal)

-- publishing and asking in turn
pub row_0 : shown (spoken the_schema (count ++ (codes "+" ++ (line_10 ++ (codes "\n.\n" ++ (count ++ (codes "+" ++ (line_20 ++ (codes "\n" ++ (count ++ (codes ".\n" ++ count))))))))))) ≡ (codes "{\"r\":0}\nat 0\npublished 1\n{\"r\":1}\nat 1\n{\"r\":1}\nat 1\npublished 2\n{\"r\":2}\nat 2\n", [])
unfolding spoken utf8_valid_len lib.Utf8.encode parse_nested plain_items keys argument whole_expression bind_nested bind read_nested nested_answer_text answered outer_fields outer_records plain.meaning record_of_line is_utf8 chars serde_json_on_literals result_text meaning escape_byte digits
row_0 = refl

-- nothing, files without records, records that are never published
pub row_3 : shown (spoken the_schema []) ≡ ([], [])
unfolding spoken utf8_valid_len lib.Utf8.encode parse_nested plain_items keys argument whole_expression bind_nested bind read_nested nested_answer_text answered outer_fields outer_records plain.meaning record_of_line is_utf8 chars serde_json_on_literals result_text meaning escape_byte digits
row_3 = refl

-- nothing, files without records, records that are never published
pub row_4 : shown (spoken the_schema (codes ".")) ≡ (codes "published 1\n", [])
unfolding spoken utf8_valid_len lib.Utf8.encode parse_nested plain_items keys argument whole_expression bind_nested bind read_nested nested_answer_text answered outer_fields outer_records plain.meaning record_of_line is_utf8 chars serde_json_on_literals result_text meaning escape_byte digits
row_4 = refl

-- nothing, files without records, records that are never published
pub row_5 : shown (spoken the_schema (codes "+" ++ (line_10 ++ codes "\n"))) ≡ ([], [])
unfolding spoken utf8_valid_len lib.Utf8.encode parse_nested plain_items keys argument whole_expression bind_nested bind read_nested nested_answer_text answered outer_fields outer_records plain.meaning record_of_line is_utf8 chars serde_json_on_literals result_text meaning escape_byte digits
row_5 = refl

-- nothing, files without records, records that are never published
pub row_6 : shown (spoken the_schema (codes ".\n" ++ (count ++ (codes ".\n+" ++ (line_10 ++ codes "\n.\n?SELECT COUNT(*) AS r FROM Document"))))) ≡ (codes "published 1\n{\"r\":0}\nat 1\npublished 2\npublished 3\n{\"r\":1}\nat 3\n", [])
unfolding spoken utf8_valid_len lib.Utf8.encode parse_nested plain_items keys argument whole_expression bind_nested bind read_nested nested_answer_text answered outer_fields outer_records plain.meaning record_of_line is_utf8 chars serde_json_on_literals result_text meaning escape_byte digits
row_6 = refl

-- nothing, files without records, records that are never published
pub row_7 : shown (spoken the_schema (codes ".\n?SELECT DocId FROM Document")) ≡ (codes "published 1\nat 1\n", [])
unfolding spoken utf8_valid_len lib.Utf8.encode parse_nested plain_items keys argument whole_expression bind_nested bind read_nested nested_answer_text answered outer_fields outer_records plain.meaning record_of_line is_utf8 chars serde_json_on_literals result_text meaning escape_byte digits
row_7 = refl

-- nothing, files without records, records that are never published
pub row_8 : shown (spoken the_schema (codes "?SELECT MAX(DocId) AS m FROM Document;")) ≡ (codes "{\"m\":null}\nat 0\n", [])
unfolding spoken utf8_valid_len lib.Utf8.encode parse_nested plain_items keys argument whole_expression bind_nested bind read_nested nested_answer_text answered outer_fields outer_records plain.meaning record_of_line is_utf8 chars serde_json_on_literals result_text meaning escape_byte digits
row_8 = refl

-- a line that is no command
pub row_9 : shown (spoken the_schema (codes "\n")) ≡ ([], codes "refused line 1: Command\n")
unfolding spoken utf8_valid_len lib.Utf8.encode parse_nested plain_items keys argument whole_expression bind_nested bind read_nested nested_answer_text answered outer_fields outer_records plain.meaning record_of_line is_utf8 chars serde_json_on_literals result_text meaning escape_byte digits
row_9 = refl

-- a line that is no command
pub row_10 : shown (spoken the_schema (codes ".\n" ++ (count ++ codes "\n.\n"))) ≡ (codes "published 1\n{\"r\":0}\nat 1\n", codes "refused line 3: Command\n")
unfolding spoken utf8_valid_len lib.Utf8.encode parse_nested plain_items keys argument whole_expression bind_nested bind read_nested nested_answer_text answered outer_fields outer_records plain.meaning record_of_line is_utf8 chars serde_json_on_literals result_text meaning escape_byte digits
row_10 = refl

-- a line that is no command
pub row_11 : shown (spoken the_schema (codes "..\n")) ≡ ([], codes "refused line 1: Command\n")
unfolding spoken utf8_valid_len lib.Utf8.encode parse_nested plain_items keys argument whole_expression bind_nested bind read_nested nested_answer_text answered outer_fields outer_records plain.meaning record_of_line is_utf8 chars serde_json_on_literals result_text meaning escape_byte digits
row_11 = refl

-- a line that is no command
pub row_12 : shown (spoken the_schema (codes ".\n" ++ (count ++ codes "..\n.\n"))) ≡ (codes "published 1\n{\"r\":0}\nat 1\n", codes "refused line 3: Command\n")
unfolding spoken utf8_valid_len lib.Utf8.encode parse_nested plain_items keys argument whole_expression bind_nested bind read_nested nested_answer_text answered outer_fields outer_records plain.meaning record_of_line is_utf8 chars serde_json_on_literals result_text meaning escape_byte digits
row_12 = refl

-- a line that is no command
pub row_13 : shown (spoken the_schema (codes ". \n")) ≡ ([], codes "refused line 1: Command\n")
unfolding spoken utf8_valid_len lib.Utf8.encode parse_nested plain_items keys argument whole_expression bind_nested bind read_nested nested_answer_text answered outer_fields outer_records plain.meaning record_of_line is_utf8 chars serde_json_on_literals result_text meaning escape_byte digits
row_13 = refl

-- a line that is no command
pub row_14 : shown (spoken the_schema (codes ".\n" ++ (count ++ codes ". \n.\n"))) ≡ (codes "published 1\n{\"r\":0}\nat 1\n", codes "refused line 3: Command\n")
unfolding spoken utf8_valid_len lib.Utf8.encode parse_nested plain_items keys argument whole_expression bind_nested bind read_nested nested_answer_text answered outer_fields outer_records plain.meaning record_of_line is_utf8 chars serde_json_on_literals result_text meaning escape_byte digits
row_14 = refl

-- a line that is no command
pub row_15 : shown (spoken the_schema (codes " .\n")) ≡ ([], codes "refused line 1: Command\n")
unfolding spoken utf8_valid_len lib.Utf8.encode parse_nested plain_items keys argument whole_expression bind_nested bind read_nested nested_answer_text answered outer_fields outer_records plain.meaning record_of_line is_utf8 chars serde_json_on_literals result_text meaning escape_byte digits
row_15 = refl

-- a line that is no command
pub row_16 : shown (spoken the_schema (codes ".\n" ++ (count ++ codes " .\n.\n"))) ≡ (codes "published 1\n{\"r\":0}\nat 1\n", codes "refused line 3: Command\n")
unfolding spoken utf8_valid_len lib.Utf8.encode parse_nested plain_items keys argument whole_expression bind_nested bind read_nested nested_answer_text answered outer_fields outer_records plain.meaning record_of_line is_utf8 chars serde_json_on_literals result_text meaning escape_byte digits
row_16 = refl

-- a line that is no command
pub row_17 : shown (spoken the_schema (codes "." ++ ((13 ∷ []) ++ codes "\n"))) ≡ ([], codes "refused line 1: Command\n")
unfolding spoken utf8_valid_len lib.Utf8.encode parse_nested plain_items keys argument whole_expression bind_nested bind read_nested nested_answer_text answered outer_fields outer_records plain.meaning record_of_line is_utf8 chars serde_json_on_literals result_text meaning escape_byte digits
row_17 = refl

-- a line that is no command
pub row_18 : shown (spoken the_schema (codes ".\n" ++ (count ++ (codes "." ++ ((13 ∷ []) ++ codes "\n.\n"))))) ≡ (codes "published 1\n{\"r\":0}\nat 1\n", codes "refused line 3: Command\n")
unfolding spoken utf8_valid_len lib.Utf8.encode parse_nested plain_items keys argument whole_expression bind_nested bind read_nested nested_answer_text answered outer_fields outer_records plain.meaning record_of_line is_utf8 chars serde_json_on_literals result_text meaning escape_byte digits
row_18 = refl

-- a line that is no command
pub row_19 : shown (spoken the_schema (codes "x\n")) ≡ ([], codes "refused line 1: Command\n")
unfolding spoken utf8_valid_len lib.Utf8.encode parse_nested plain_items keys argument whole_expression bind_nested bind read_nested nested_answer_text answered outer_fields outer_records plain.meaning record_of_line is_utf8 chars serde_json_on_literals result_text meaning escape_byte digits
row_19 = refl

-- a line that is no command
pub row_20 : shown (spoken the_schema (codes ".\n" ++ (count ++ codes "x\n.\n"))) ≡ (codes "published 1\n{\"r\":0}\nat 1\n", codes "refused line 3: Command\n")
unfolding spoken utf8_valid_len lib.Utf8.encode parse_nested plain_items keys argument whole_expression bind_nested bind read_nested nested_answer_text answered outer_fields outer_records plain.meaning record_of_line is_utf8 chars serde_json_on_literals result_text meaning escape_byte digits
row_20 = refl

-- a line that is no command
pub row_21 : shown (spoken the_schema (codes " ?SELECT DocId FROM Document\n")) ≡ ([], codes "refused line 1: Command\n")
unfolding spoken utf8_valid_len lib.Utf8.encode parse_nested plain_items keys argument whole_expression bind_nested bind read_nested nested_answer_text answered outer_fields outer_records plain.meaning record_of_line is_utf8 chars serde_json_on_literals result_text meaning escape_byte digits
row_21 = refl

-- a line that is no command
pub row_22 : shown (spoken the_schema (codes ".\n" ++ (count ++ codes " ?SELECT DocId FROM Document\n.\n"))) ≡ (codes "published 1\n{\"r\":0}\nat 1\n", codes "refused line 3: Command\n")
unfolding spoken utf8_valid_len lib.Utf8.encode parse_nested plain_items keys argument whole_expression bind_nested bind read_nested nested_answer_text answered outer_fields outer_records plain.meaning record_of_line is_utf8 chars serde_json_on_literals result_text meaning escape_byte digits
row_22 = refl

-- a line that is no command
pub row_23 : shown (spoken the_schema (codes "{}\n")) ≡ ([], codes "refused line 1: Command\n")
unfolding spoken utf8_valid_len lib.Utf8.encode parse_nested plain_items keys argument whole_expression bind_nested bind read_nested nested_answer_text answered outer_fields outer_records plain.meaning record_of_line is_utf8 chars serde_json_on_literals result_text meaning escape_byte digits
row_23 = refl

-- a line that is no command
pub row_24 : shown (spoken the_schema (codes ".\n" ++ (count ++ codes "{}\n.\n"))) ≡ (codes "published 1\n{\"r\":0}\nat 1\n", codes "refused line 3: Command\n")
unfolding spoken utf8_valid_len lib.Utf8.encode parse_nested plain_items keys argument whole_expression bind_nested bind read_nested nested_answer_text answered outer_fields outer_records plain.meaning record_of_line is_utf8 chars serde_json_on_literals result_text meaning escape_byte digits
row_24 = refl

-- a line that is no command
pub row_25 : shown (spoken the_schema (codes ".+{}\n")) ≡ ([], codes "refused line 1: Command\n")
unfolding spoken utf8_valid_len lib.Utf8.encode parse_nested plain_items keys argument whole_expression bind_nested bind read_nested nested_answer_text answered outer_fields outer_records plain.meaning record_of_line is_utf8 chars serde_json_on_literals result_text meaning escape_byte digits
row_25 = refl

-- a line that is no command
pub row_26 : shown (spoken the_schema (codes ".\n" ++ (count ++ codes ".+{}\n.\n"))) ≡ (codes "published 1\n{\"r\":0}\nat 1\n", codes "refused line 3: Command\n")
unfolding spoken utf8_valid_len lib.Utf8.encode parse_nested plain_items keys argument whole_expression bind_nested bind read_nested nested_answer_text answered outer_fields outer_records plain.meaning record_of_line is_utf8 chars serde_json_on_literals result_text meaning escape_byte digits
row_26 = refl

-- a line that is no command
pub row_27 : shown (spoken the_schema ((255 ∷ []) ++ codes "\n")) ≡ ([], codes "refused line 1: Command\n")
unfolding spoken utf8_valid_len lib.Utf8.encode parse_nested plain_items keys argument whole_expression bind_nested bind read_nested nested_answer_text answered outer_fields outer_records plain.meaning record_of_line is_utf8 chars serde_json_on_literals result_text meaning escape_byte digits
row_27 = refl

-- a line that is no command
pub row_28 : shown (spoken the_schema (codes ".\n" ++ (count ++ ((255 ∷ []) ++ codes "\n.\n")))) ≡ (codes "published 1\n{\"r\":0}\nat 1\n", codes "refused line 3: Command\n")
unfolding spoken utf8_valid_len lib.Utf8.encode parse_nested plain_items keys argument whole_expression bind_nested bind read_nested nested_answer_text answered outer_fields outer_records plain.meaning record_of_line is_utf8 chars serde_json_on_literals result_text meaning escape_byte digits
row_28 = refl

-- a line that is no command
pub row_29 : shown (spoken the_schema ((0 ∷ []) ++ codes "\n")) ≡ ([], codes "refused line 1: Command\n")
unfolding spoken utf8_valid_len lib.Utf8.encode parse_nested plain_items keys argument whole_expression bind_nested bind read_nested nested_answer_text answered outer_fields outer_records plain.meaning record_of_line is_utf8 chars serde_json_on_literals result_text meaning escape_byte digits
row_29 = refl

-- a line that is no command
pub row_30 : shown (spoken the_schema (codes ".\n" ++ (count ++ ((0 ∷ []) ++ codes "\n.\n")))) ≡ (codes "published 1\n{\"r\":0}\nat 1\n", codes "refused line 3: Command\n")
unfolding spoken utf8_valid_len lib.Utf8.encode parse_nested plain_items keys argument whole_expression bind_nested bind read_nested nested_answer_text answered outer_fields outer_records plain.meaning record_of_line is_utf8 chars serde_json_on_literals result_text meaning escape_byte digits
row_30 = refl

-- a record that is refused
pub row_31 : shown (spoken the_schema (codes "+" ++ (line_10 ++ codes "\n+\n.\n"))) ≡ ([], codes "refused line 2: NotJson\n")
unfolding spoken utf8_valid_len lib.Utf8.encode parse_nested plain_items keys argument whole_expression bind_nested bind read_nested nested_answer_text answered outer_fields outer_records plain.meaning record_of_line is_utf8 chars serde_json_on_literals result_text meaning escape_byte digits
row_31 = refl

-- a record that is refused
pub row_32 : shown (spoken the_schema (codes "+" ++ (line_10 ++ codes "\n+{}\n.\n"))) ≡ ([], codes "refused line 2: MissingField\n")
unfolding spoken utf8_valid_len lib.Utf8.encode parse_nested plain_items keys argument whole_expression bind_nested bind read_nested nested_answer_text answered outer_fields outer_records plain.meaning record_of_line is_utf8 chars serde_json_on_literals result_text meaning escape_byte digits
row_32 = refl

-- a record that is refused
pub row_33 : shown (spoken the_schema (codes "+" ++ (line_10 ++ codes "\n+{\"DocId\":1.5}\n.\n"))) ≡ ([], codes "refused line 2: WrongKind\n")
unfolding spoken utf8_valid_len lib.Utf8.encode parse_nested plain_items keys argument whole_expression bind_nested bind read_nested nested_answer_text answered outer_fields outer_records plain.meaning record_of_line is_utf8 chars serde_json_on_literals result_text meaning escape_byte digits
row_33 = refl

-- a record that is refused
pub row_34 : shown (spoken the_schema (codes "+" ++ (line_10 ++ codes "\n+{\"DocId\":1,\"X\":2}\n.\n"))) ≡ ([], codes "refused line 2: UnknownField\n")
unfolding spoken utf8_valid_len lib.Utf8.encode parse_nested plain_items keys argument whole_expression bind_nested bind read_nested nested_answer_text answered outer_fields outer_records plain.meaning record_of_line is_utf8 chars serde_json_on_literals result_text meaning escape_byte digits
row_34 = refl

-- a record that is refused
pub row_35 : shown (spoken the_schema (codes "+" ++ (line_10 ++ codes "\n+{\"DocId\":1,\"Name\":[null]}\n.\n"))) ≡ ([], codes "refused line 2: NullElement\n")
unfolding spoken utf8_valid_len lib.Utf8.encode parse_nested plain_items keys argument whole_expression bind_nested bind read_nested nested_answer_text answered outer_fields outer_records plain.meaning record_of_line is_utf8 chars serde_json_on_literals result_text meaning escape_byte digits
row_35 = refl

-- a record that is refused
pub row_36 : shown (spoken the_schema (codes "+" ++ (line_10 ++ codes "\n+{\"DocId\":9223372036854775808}\n.\n"))) ≡ ([], codes "refused line 2: OutOfRange\n")
unfolding spoken utf8_valid_len lib.Utf8.encode parse_nested plain_items keys argument whole_expression bind_nested bind read_nested nested_answer_text answered outer_fields outer_records plain.meaning record_of_line is_utf8 chars serde_json_on_literals result_text meaning escape_byte digits
row_36 = refl

-- a record that is refused
pub row_37 : shown (spoken the_schema (codes "+" ++ (line_10 ++ codes "\n++{}\n.\n"))) ≡ ([], codes "refused line 2: NotJson\n")
unfolding spoken utf8_valid_len lib.Utf8.encode parse_nested plain_items keys argument whole_expression bind_nested bind read_nested nested_answer_text answered outer_fields outer_records plain.meaning record_of_line is_utf8 chars serde_json_on_literals result_text meaning escape_byte digits
row_37 = refl

-- a record that is refused
pub row_38 : shown (spoken the_schema (codes "+" ++ (line_10 ++ codes "\n+[]\n.\n"))) ≡ ([], codes "refused line 2: WrongKind\n")
unfolding spoken utf8_valid_len lib.Utf8.encode parse_nested plain_items keys argument whole_expression bind_nested bind read_nested nested_answer_text answered outer_fields outer_records plain.meaning record_of_line is_utf8 chars serde_json_on_literals result_text meaning escape_byte digits
row_38 = refl

-- a record with blanks round it
pub row_39 : shown (spoken the_schema (codes "+ " ++ (line_10 ++ ((codes " " ++ ((13 ∷ []) ++ codes "\n.\n")) ++ count)))) ≡ (codes "published 1\n{\"r\":1}\nat 1\n", [])
unfolding spoken utf8_valid_len lib.Utf8.encode parse_nested plain_items keys argument whole_expression bind_nested bind read_nested nested_answer_text answered outer_fields outer_records plain.meaning record_of_line is_utf8 chars serde_json_on_literals result_text meaning escape_byte digits
row_39 = refl

-- a query that is refused
pub row_40 : shown (spoken the_schema (codes ".\n?\n" ++ count)) ≡ (codes "published 1\n", codes "refused line 2: query at 0: Syntax\n")
unfolding spoken utf8_valid_len lib.Utf8.encode parse_nested plain_items keys argument whole_expression bind_nested bind read_nested nested_answer_text answered outer_fields outer_records plain.meaning record_of_line is_utf8 chars serde_json_on_literals result_text meaning escape_byte digits
row_40 = refl

-- a query that is refused
pub row_41 : shown (spoken the_schema (codes ".\n?SELECT x FROM Document\n" ++ count)) ≡ (codes "published 1\n", codes "refused line 2: query at 7: UnknownField\n")
unfolding spoken utf8_valid_len lib.Utf8.encode parse_nested plain_items keys argument whole_expression bind_nested bind read_nested nested_answer_text answered outer_fields outer_records plain.meaning record_of_line is_utf8 chars serde_json_on_literals result_text meaning escape_byte digits
row_41 = refl

-- a query that is refused
pub row_42 : shown (spoken the_schema (codes ".\n?SELECT FROM Document\n" ++ count)) ≡ (codes "published 1\n", codes "refused line 2: query at 7: Syntax\n")
unfolding spoken utf8_valid_len lib.Utf8.encode parse_nested plain_items keys argument whole_expression bind_nested bind read_nested nested_answer_text answered outer_fields outer_records plain.meaning record_of_line is_utf8 chars serde_json_on_literals result_text meaning escape_byte digits
row_42 = refl

-- a query that is refused
pub row_43 : shown (spoken the_schema ((codes ".\n?SELECT DocId FROM Document" ++ ((255 ∷ []) ++ codes "\n")) ++ count)) ≡ (codes "published 1\n", codes "refused line 2: query at 26: Syntax\n")
unfolding spoken utf8_valid_len lib.Utf8.encode parse_nested plain_items keys argument whole_expression bind_nested bind read_nested nested_answer_text answered outer_fields outer_records plain.meaning record_of_line is_utf8 chars serde_json_on_literals result_text meaning escape_byte digits
row_43 = refl

-- a query that is refused
pub row_44 : shown (spoken the_schema ((codes ".\n?SELECT '" ++ ((255 ∷ []) ++ codes "' FROM Document\n")) ++ count)) ≡ (codes "published 1\n", codes "refused line 2: query at 7: Syntax\n")
unfolding spoken utf8_valid_len lib.Utf8.encode parse_nested plain_items keys argument whole_expression bind_nested bind read_nested nested_answer_text answered outer_fields outer_records plain.meaning record_of_line is_utf8 chars serde_json_on_literals result_text meaning escape_byte digits
row_44 = refl

-- a query that is refused
pub row_45 : shown (spoken the_schema ((codes ".\n?SELECT 'a" ++ ((195 ∷ []) ++ codes "' FROM Document\n")) ++ count)) ≡ (codes "published 1\n", codes "refused line 2: query at 7: Syntax\n")
unfolding spoken utf8_valid_len lib.Utf8.encode parse_nested plain_items keys argument whole_expression bind_nested bind read_nested nested_answer_text answered outer_fields outer_records plain.meaning record_of_line is_utf8 chars serde_json_on_literals result_text meaning escape_byte digits
row_45 = refl

-- a query that is refused
pub row_46 : shown (spoken the_schema ((codes ".\n?" ++ ((255 ∷ []) ++ codes "SELECT DocId FROM Document\n")) ++ count)) ≡ (codes "published 1\n", codes "refused line 2: query at 0: Syntax\n")
unfolding spoken utf8_valid_len lib.Utf8.encode parse_nested plain_items keys argument whole_expression bind_nested bind read_nested nested_answer_text answered outer_fields outer_records plain.meaning record_of_line is_utf8 chars serde_json_on_literals result_text meaning escape_byte digits
row_46 = refl

-- a query that is refused
pub row_47 : shown (spoken the_schema (codes ".\n?SELECT DocId FROM T\n" ++ count)) ≡ (codes "published 1\n", codes "refused line 2: query at 18: UnknownTable\n")
unfolding spoken utf8_valid_len lib.Utf8.encode parse_nested plain_items keys argument whole_expression bind_nested bind read_nested nested_answer_text answered outer_fields outer_records plain.meaning record_of_line is_utf8 chars serde_json_on_literals result_text meaning escape_byte digits
row_47 = refl

-- a query that is refused
pub row_48 : shown (spoken the_schema (codes ".\n?SELECT DocId FROM Document;;\n" ++ count)) ≡ (codes "published 1\n", codes "refused line 2: query at 27: Syntax\n")
unfolding spoken utf8_valid_len lib.Utf8.encode parse_nested plain_items keys argument whole_expression bind_nested bind read_nested nested_answer_text answered outer_fields outer_records plain.meaning record_of_line is_utf8 chars serde_json_on_literals result_text meaning escape_byte digits
row_48 = refl
