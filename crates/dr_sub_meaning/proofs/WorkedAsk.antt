-- Texts of queries over the results of others, answered and refused, by computation.
use Rattle.std.specs.Prelude.{◌≡◌, ℕ, List, [], ◌∷◌, Result, Ok, Err, codes, refl}
use Rattle.std.specs.Str.{chars}
use Rattle.std.specs.Fmt.{digits}
use Rattle.json.specs.Print.{escape_byte}
use Rattle.dr_meaning.specs.Expression.{matches}
use Rattle.dr_meaning.specs.Print.{result_text}
use Rattle.dr_meaning.specs.Query as plain
use Rattle.dr_meaning.specs.Parse.{items as plain_items, keys, whole_expression, argument}
use Rattle.dr_meaning.specs.Binding.{bind}
use Rattle.dr_meaning.specs.Refusals.{QueryRefusal, query_refusal_text}
use Rattle.dr_meaning.proofs.WorkedSchemas.{document_schema}
use Rattle.dr_meaning.proofs.WorkedRecords.{record_10, record_20}
use Rattle.dr_ordering.specs.Ordered.{in_order}
use Rattle.dr_sub_meaning.specs.ResultRecords.{result_fields}
use Rattle.dr_sub_meaning.specs.ResultFaults.{result_schema}
use Rattle.dr_sub_meaning.specs.Nested.{NestedQuery, answered, meaning, outer_fields, outer_records}
use Rattle.dr_sub_meaning.specs.NestedParse.{parse_nested}
use Rattle.dr_sub_meaning.specs.NestedBinding.{bind_nested}
use Rattle.dr_sub_meaning.specs.NestedAsk.{read_nested, nested_answer_text}

abbrev said_of : Result NestedQuery QueryRefusal → List ℕ
said_of (Ok n) = nested_answer_text document_schema n (record_10 ∷ record_20 ∷ [])
said_of (Err e) = query_refusal_text e

-- what is said to a text over the two records
abbrev said : List ℕ → List ℕ
said text = said_of (read_nested document_schema text)

pub over_objects : said (codes "SELECT n FROM (SELECT COUNT(Name.Url) WITHIN RECORD AS n FROM Document) ORDER BY n LIMIT 1") ≡ codes "{\"n\":1}\n"
unfolding read_nested nested_answer_text parse_nested plain_items keys whole_expression argument bind_nested bind result_schema result_fields answered meaning outer_fields outer_records plain.meaning in_order result_text matches chars escape_byte digits
over_objects = refl

-- the text's fault, at its place
pub no_text : said (codes "SELECT n FROM (SELECT") ≡ codes "refused query at 21: Syntax\n"
unfolding read_nested parse_nested plain_items keys whole_expression argument digits
no_text = refl

-- an inner query's own fault
pub no_field : said (codes "SELECT n FROM (SELECT Nix AS n FROM Document)") ≡ codes "refused query at 22: UnknownField\n"
unfolding read_nested parse_nested plain_items keys whole_expression argument bind_nested bind result_schema result_fields digits
no_field = refl

pub no_records : said (codes "SELECT c FROM (SELECT COUNT(*) AS c FROM Document)") ≡ codes "refused query at 15: NotRecords\n"
unfolding read_nested parse_nested plain_items keys whole_expression argument bind_nested bind result_schema result_fields digits
no_records = refl

pub no_order : said (codes "SELECT DocId FROM Document ORDER BY Nix") ≡ codes "refused query at 36: BadOrder\n"
unfolding read_nested parse_nested plain_items keys whole_expression argument bind_nested bind result_schema result_fields digits
no_order = refl

-- an item with the name of a list that a later item brings in
pub no_name : said (codes "SELECT a FROM (SELECT DocId AS Links_Forward, Links.Forward AS a FROM Document)") ≡ codes "refused query at 46: ResultName\n"
unfolding read_nested parse_nested plain_items keys whole_expression argument bind_nested bind result_schema result_fields digits
no_name = refl
