-- Bare leaf lines of queries, and that parse_query reads them back, by computation.
use Rattle.std.specs.Prelude.{◌≡◌, ℕ, ◌^◌, List, [], ◌∷◌, Bool, true, false, pos, Option, Some, None, codes, refl, Ok, Err, Result}
use Rattle.std.specs.Fmt.{digits}
use Rattle.std.specs.Str.{is_utf8, chars}
use Rattle.dr_meaning.specs.Schema.{no_fields, field, leaf, group, Schema, required, repeated, optional, int64_kind, text_kind}
use Rattle.dr_meaning.specs.Path.{Step}
use Rattle.dr_meaning.specs.Record.{int_value}
use Rattle.dr_meaning.specs.Expression.{constant, path_value, arithmetic, plus, like, contains}
use Rattle.dr_meaning.specs.Query.{count, sum, greatest as greatest_value, expression, within, GroupItem, GroupTerm, key, count_rows, aggregate, RecordItem, RecordTerm, Query, objects, groups}
use Rattle.dr_meaning.specs.Syntax.{number_literal, expression as expression_syntax, QuerySyntax}
use Rattle.dr_meaning.specs.Parse.{parse_query, QueryFault, items, whole_expression, argument, keys}
use Rattle.dr_meaning.specs.BoundExpression.{BindProblem, duplicate_name, BindFault}
use Rattle.dr_meaning.specs.Binding.{bind}
use Rattle.dr_meaning.proofs.WorkedSchemas.{document_schema}
use Rattle.dr_meaning.proofs.WorkedPaths.{doc_id, forward, name, code, country, url}
use Rattle.dr_partials.specs.Rewriting.{leaf_query}
use Rattle.dr_query_laws.specs.ReadBack.{bare_leaf_text}

-- the query of a text over a schema, where it is one
abbrev query_in : Schema → List ℕ → Option Query
query_in s bytes = of_tree (parse_query bytes)
  where
    of_bound : Result Query BindFault → Option Query
    of_bound (Ok q) = Some q
    of_bound (Err f) = None

    of_tree : Result QuerySyntax QueryFault → Option Query
    of_tree (Ok x) = of_bound (bind s x)
    of_tree (Err f) = None

abbrev is_read : Result QuerySyntax QueryFault → Bool
is_read (Ok x) = true
is_read (Err f) = false

abbrev is_bound : Result Query BindFault → Bool
is_bound (Ok q) = true
is_bound (Err f) = false

-- the problem for which the schema refuses a tree
abbrev fault_in : Schema → Result QuerySyntax QueryFault → Option BindProblem
fault_in s (Ok x) = of_bound (bind s x)
  where
    of_bound : Result Query BindFault → Option BindProblem
    of_bound (Ok q) = None
    of_bound (Err f) = Some f.problem
fault_in s (Err f) = None

-- its bare leaf line
abbrev line_of : Schema → Option Query → Option (List ℕ)
line_of s None = None
line_of s (Some q) = Some (bare_leaf_text s q)

abbrev line_in : Schema → List ℕ → Option (List ℕ)
line_in s bytes = line_of s (query_in s bytes)

abbrev grouped : List ℕ → GroupTerm → GroupItem
grouped n t = record { name = n; term = t }

abbrev of_record : List ℕ → RecordTerm → RecordItem
of_record n t = record { name = n; term = t }

-- ---- an aggregate query: keys first, then the aggregates, under names of their own

abbrev countries : List ℕ
countries = codes "SELECT COUNT(DocId) AS n, Name.Language.Country AS c, COUNT(*), MAX(DocId + 1) FROM Document GROUP BY Name.Language.Country"

abbrev countries_line : List ℕ
countries_line = codes "SELECT Name.Language.Country, COUNT(DocId), COUNT(*), MAX((DocId + 1)) FROM Document GROUP BY Name.Language.Country"

pub line_of_countries : line_in document_schema countries ≡ Some countries_line
unfolding bare_leaf_text leaf_query parse_query bind is_utf8 chars digits items whole_expression argument keys
line_of_countries = refl

pub countries_read_back : query_in document_schema countries_line ≡ Some (record {
  condition = None;
  selection = groups (country ∷ []) (grouped (codes "Name.Language.Country") (key 0) ∷ grouped (codes "f1_") (aggregate count (path_value doc_id)) ∷ grouped (codes "f2_") count_rows
      ∷ grouped (codes "f3_") (aggregate greatest_value (arithmetic plus (path_value doc_id) (constant (int_value (pos 1))))) ∷ []);
})
unfolding parse_query bind is_utf8 chars digits items whole_expression argument keys
countries_read_back = refl

-- ---- a record query with WITHIN and WHERE

abbrev codes_within : List ℕ
codes_within = codes "SELECT DocId, COUNT(Name.Language.Code) WITHIN Name AS c, SUM(Links.Forward) WITHIN RECORD AS s FROM Document WHERE Name.Url LIKE 'http%'"

abbrev codes_line : List ℕ
codes_line = codes "SELECT DocId, COUNT(Name.Language.Code) WITHIN Name, SUM(Links.Forward) WITHIN RECORD FROM Document WHERE (Name.Url LIKE 'http%')"

pub line_of_codes : line_in document_schema codes_within ≡ Some codes_line
unfolding bare_leaf_text leaf_query parse_query bind is_utf8 chars digits items whole_expression argument keys
line_of_codes = refl

pub codes_read_back : query_in document_schema codes_line ≡ Some (record {
  condition = Some (like (path_value url) (codes "http%"));
  selection = objects (of_record (codes "DocId") (expression (path_value doc_id)) ∷ of_record (codes "f1_") (within count (path_value code) name) ∷ of_record (codes "f2_") (within sum (path_value forward) []) ∷ []);
})
unfolding parse_query bind is_utf8 chars digits items whole_expression argument keys
codes_read_back = refl

-- ---- reserved names stand in double quotes, and a quote in a text is doubled

abbrev group_schema : Schema
group_schema = record {
  name = codes "Group";
  fields = field (codes "a") required (leaf int64_kind) (field (codes "From") repeated (group (field (codes "x") optional (leaf int64_kind) (field (codes "null") optional (leaf text_kind) no_fields))) no_fields);
}

abbrev null_path : List Step
null_path = record { place = 1; repetition = repeated } ∷ record { place = 1; repetition = optional } ∷ []

abbrev null_line : List ℕ
null_line = codes "SELECT \"From\".\"null\", SUM(a) FROM \"Group\" WHERE (\"From\".\"null\" CONTAINS 'it''s') GROUP BY \"From\".\"null\""

pub line_of_reserved : line_in group_schema (codes "SELECT SUM(a) AS s, \"From\".\"null\" AS k FROM \"Group\" WHERE \"From\".\"null\" CONTAINS 'it''s' GROUP BY \"From\".\"null\"") ≡ Some null_line
unfolding bare_leaf_text leaf_query parse_query bind is_utf8 chars digits items whole_expression argument keys
line_of_reserved = refl

pub reserved_read_back : query_in group_schema null_line ≡ Some (record {
  condition = Some (contains (path_value null_path) (codes "it's"));
  selection = groups (null_path ∷ []) (grouped (codes "From.null") (key 0) ∷ grouped (codes "f1_") (aggregate sum (path_value (record { place = 0; repetition = required } ∷ []))) ∷ []);
})
unfolding parse_query bind is_utf8 chars digits items whole_expression argument keys
reserved_read_back = refl

-- ---- nested operators: each in parentheses

abbrev nested_line : List ℕ
nested_line = codes "SELECT (DocId - (2 * (-3))) FROM Document WHERE ((NOT ((DocId <= 20) OR (Name.Url IS NULL))) AND (TRUE <> FALSE))"

pub line_of_nested : line_in document_schema (codes "SELECT DocId - 2 * -3 AS d FROM Document WHERE NOT (DocId <= 20 OR Name.Url IS NULL) AND TRUE <> FALSE") ≡ Some nested_line
unfolding bare_leaf_text leaf_query parse_query bind is_utf8 chars digits items whole_expression argument keys
line_of_nested = refl

-- and a bare line's bare line is itself
pub line_of_nested_line : line_in document_schema nested_line ≡ Some nested_line
unfolding bare_leaf_text leaf_query parse_query bind is_utf8 chars digits items whole_expression argument keys
line_of_nested_line = refl

-- ---- two items of one name

pub line_of_twice : line_in document_schema (codes "SELECT DocId, DocId AS again FROM Document") ≡ Some (codes "SELECT DocId, DocId FROM Document")
unfolding bare_leaf_text leaf_query parse_query bind is_utf8 chars digits items whole_expression argument keys
line_of_twice = refl

-- and over two of one name the line is read, but not bound
pub twice_reads : is_read (parse_query (codes "SELECT DocId, DocId FROM Document")) ≡ true
unfolding parse_query is_utf8 chars digits items whole_expression argument keys
twice_reads = refl

pub twice_has_one_name : fault_in document_schema (parse_query (codes "SELECT DocId, DocId FROM Document")) ≡ Some duplicate_name
unfolding parse_query bind is_utf8 chars digits items whole_expression argument keys
twice_has_one_name = refl

-- ---- a tree with a number past 9223372036854775807 comes of no text: it is bound, but its line isn't read

abbrev past_all_numbers : QuerySyntax
past_all_numbers = record {
  items = record { place = 7; term = expression_syntax (number_literal (2 ^ 63)); name = None } ∷ [];
  table = record { place = 32; name = codes "Document" };
  condition = None;
  keys = [];
}

pub past_is_bound : is_bound (bind document_schema past_all_numbers) ≡ true
unfolding bind is_utf8 chars digits
past_is_bound = refl

pub past_is_not_read : is_read (parse_query (codes "SELECT 9223372036854775808 FROM Document")) ≡ false
unfolding parse_query is_utf8 chars digits items whole_expression argument keys
past_is_not_read = refl
