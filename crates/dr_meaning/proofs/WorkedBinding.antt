-- The queries that texts are bound to, and what these mean on the worked records, by computation.
use Rattle.std.specs.Prelude.{◌≡◌, ℕ, List, [], ◌∷◌, ◌++◌, map, true, pos, Option, Some, None, Result, Ok, Err, codes, refl}
use Rattle.std.specs.Str.{chars}
use Rattle.std.specs.Fmt.{digits}
use Rattle.json.specs.Print.{escape_byte}
use Rattle.dr_meaning.specs.Record.{bool_value, int_value, text_value}
use Rattle.dr_meaning.specs.Path.{Step, Leaf}
use Rattle.dr_meaning.specs.Expression.{Expression, constant, path_value, negative, arithmetic, plus, minus, times, comparison, less, equal, greater}
use Rattle.dr_meaning.specs.Expression.{like, contains, is_null, negation, conjunction, disjunction, matches}
use Rattle.dr_meaning.specs.Query.{Aggregate, count, sum, least, greatest, RecordItem, expression, within, GroupItem, key, count_rows, aggregate, Query}
use Rattle.dr_meaning.specs.Query.{objects, groups, meaning}
use Rattle.dr_meaning.specs.Print.{result_text}
use Rattle.dr_meaning.specs.Syntax.{QuerySyntax}
use Rattle.dr_meaning.specs.Parse.{parse_query, items, keys, whole_expression, argument, QueryFault}
use Rattle.dr_meaning.specs.BoundExpression.{BindFault}
use Rattle.dr_meaning.specs.Binding.{bind}
use Rattle.dr_meaning.specs.QueryLeaves.{query_leaves}
use Rattle.dr_meaning.proofs.WorkedSchemas.{document, document_schema}
use Rattle.dr_meaning.proofs.WorkedRecords.{record_10, record_20}
use Rattle.dr_meaning.proofs.WorkedPaths.{doc_id, forward, name, language_level, code, country, url}

abbrev bound : Result Query BindFault → Option Query
bound (Ok q) = Some q
bound (Err e) = None

abbrev bound_syntax : Result QuerySyntax QueryFault → Option Query
bound_syntax (Ok q) = bound (bind document_schema q)
bound_syntax (Err e) = None

-- the query of a text
abbrev query_of : List ℕ → Option Query
query_of text = bound_syntax (parse_query text)

abbrev answer_of : Option Query → List ℕ
answer_of None = []
answer_of (Some q) = result_text (meaning document q (record_10 ∷ record_20 ∷ []))

-- the answer to a text over the two records
abbrev answer : List ℕ → List ℕ
answer text = answer_of (query_of text)

abbrev line : List ℕ → List ℕ
line t = t ++ 10 ∷ []

abbrev text : List ℕ → Expression
text t = constant (text_value t)

abbrev number : ℕ → Expression
number n = constant (int_value (pos n))

abbrev item : List ℕ → Expression → RecordItem
item n e = record { name = n; term = expression e }

abbrev total_within : List ℕ → Aggregate → Expression → List Step → RecordItem
total_within n a e node = record { name = n; term = within a e node }

abbrev key_item : List ℕ → ℕ → GroupItem
key_item n i = record { name = n; term = key i }

abbrev rows_item : List ℕ → GroupItem
rows_item n = record { name = n; term = count_rows }

abbrev total : List ℕ → Aggregate → Expression → GroupItem
total n a e = record { name = n; term = aggregate a e }

-- ---- record queries

abbrev within_text : List ℕ
within_text = codes "SELECT DocId AS Id, COUNT(Name.Language.Code) WITHIN Name AS Cnt, Name.Url + ',' + Name.Language.Code AS Str FROM Document WHERE Name.Url LIKE 'http%' AND DocId < 20"

pub within_query : query_of within_text ≡ Some (record {
  condition = Some (conjunction (like (path_value url) (codes "http%")) (comparison less (path_value doc_id) (number 20)));
  selection = objects (item (codes "Id") (path_value doc_id) ∷ total_within (codes "Cnt") count (path_value code) name
      ∷ item (codes "Str") (arithmetic plus (arithmetic plus (path_value url) (text (codes ","))) (path_value code)) ∷ []);
})
unfolding bind parse_query items keys whole_expression argument digits
within_query = refl

pub within_answer : answer within_text ≡ line (codes "{\"Id\":10,\"Name\":[{\"Cnt\":2,\"Language\":[{\"Str\":\"http://A,en-us\"},{\"Str\":\"http://A,en\"}]},{\"Cnt\":0,\"Language\":[]}]}")
unfolding bind parse_query items keys whole_expression argument result_text meaning matches chars escape_byte digits
within_answer = refl

-- names: AS, a path's names, a path in parentheses, and the place among the items where there is neither
pub item_names : query_of (codes "SELECT (Name.Url), DocId AS a, -DocId, COUNT(Name.Url) WITHIN RECORD, TRUE, ((DocId)) FROM Document") ≡ Some (record {
  condition = None;
  selection = objects (item (codes "Name.Url") (path_value url) ∷ item (codes "a") (path_value doc_id) ∷ item (codes "f2_") (negative (path_value doc_id))
      ∷ total_within (codes "f3_") count (path_value url) [] ∷ item (codes "f4_") (constant (bool_value true)) ∷ item (codes "DocId") (path_value doc_id) ∷ []);
})
unfolding bind parse_query items keys whole_expression argument digits
item_names = refl

-- each operator
pub operators : query_of (codes "SELECT DocId FROM Document WHERE (NOT DocId = 1 OR Name.Url CONTAINS 'a') AND Name.Url IS NOT NULL AND -DocId * 2 - 3 > DocId") ≡ Some (record {
  condition = Some (conjunction (conjunction (disjunction (negation (comparison equal (path_value doc_id) (number 1))) (contains (path_value url) (codes "a")))
      (negation (is_null (path_value url)))) (comparison greater (arithmetic minus (arithmetic times (negative (path_value doc_id)) (number 2)) (number 3)) (path_value doc_id)));
  selection = objects (item (codes "DocId") (path_value doc_id) ∷ []);
})
unfolding bind parse_query items keys whole_expression argument digits
operators = refl

-- an aggregate within each of two nested nodes, and within the record
pub nested_nodes : query_of (codes "SELECT MIN(Name.Language.Code) WITHIN Name AS m, MAX(Name.Language.Code) WITHIN Name.Language AS x, SUM(Links.Forward) WITHIN RECORD AS s FROM Document") ≡ Some (record {
  condition = None;
  selection = objects (total_within (codes "m") least (path_value code) name ∷ total_within (codes "x") greatest (path_value code) language_level
      ∷ total_within (codes "s") sum (path_value forward) [] ∷ []);
})
unfolding bind parse_query items keys whole_expression argument digits
nested_nodes = refl

-- ---- aggregate queries

abbrev country_text : List ℕ
country_text = codes "SELECT Name.Language.Country, COUNT(DocId) AS n FROM Document GROUP BY Name.Language.Country;"

pub by_country : query_of country_text ≡ Some (record {
  condition = None;
  selection = groups (country ∷ []) (key_item (codes "Name.Language.Country") 0 ∷ total (codes "n") count (path_value doc_id) ∷ []);
})
unfolding bind parse_query items keys whole_expression argument digits
by_country = refl

pub by_country_answer : answer country_text ≡
    line (codes "{\"Name.Language.Country\":null,\"n\":3}") ++ line (codes "{\"Name.Language.Country\":\"gb\",\"n\":1}") ++ line (codes "{\"Name.Language.Country\":\"us\",\"n\":1}")
unfolding bind parse_query items keys whole_expression argument result_text meaning escape_byte digits
by_country_answer = refl

-- without GROUP BY an aggregate without WITHIN makes it one
pub totals : query_of (codes "SELECT COUNT(*), COUNT(Name.Url) AS u, SUM(Links.Forward + 1) FROM Document WHERE DocId > 5") ≡ Some (record {
  condition = Some (comparison greater (path_value doc_id) (number 5));
  selection = groups [] (rows_item (codes "f0_") ∷ total (codes "u") count (path_value url) ∷ total (codes "f2_") sum (arithmetic plus (path_value forward) (number 1)) ∷ []);
})
unfolding bind parse_query items keys whole_expression argument digits
totals = refl

-- keys keep their order; an item is the first key of its path; a key needs no item
pub several_keys : query_of (codes "SELECT DocId AS d, (Name.Url), DocId FROM Document GROUP BY Name.Url, DocId, Name.Language.Code, DocId") ≡ Some (record {
  condition = None;
  selection = groups (url ∷ doc_id ∷ code ∷ doc_id ∷ []) (key_item (codes "d") 1 ∷ key_item (codes "Name.Url") 0 ∷ key_item (codes "DocId") 1 ∷ []);
})
unfolding bind parse_query items keys whole_expression argument digits
several_keys = refl

-- ---- the leaves that a query uses, in reading order: those of the condition, of the keys and of the items, each once

abbrev leaf_paths : Option Query → List (List Step)
leaf_paths None = []
leaf_paths (Some q) = map (λ (l : Leaf). l.path) (query_leaves document q)

pub used_leaves : (leaf_paths (query_of within_text) ≡ doc_id ∷ url ∷ code ∷ [])
    × (leaf_paths (query_of (codes "SELECT COUNT(Links.Forward), COUNT(*) FROM Document WHERE Name.Url = 'a' AND Name.Url = 'b' GROUP BY DocId")) ≡ doc_id ∷ forward ∷ url ∷ [])
    × (leaf_paths (query_of (codes "SELECT COUNT(*) FROM Document")) ≡ []) × (leaf_paths (query_of (codes "SELECT COUNT(Name.Language.Code) WITHIN Name FROM Document")) ≡ code ∷ [])
unfolding bind parse_query items keys whole_expression argument digits query_leaves
used_leaves = (refl, refl, refl, refl)
